-- Demand 3 in full, as one statement about any listener, reader and writer (rules 13.4).
use Rattle.std.specs.Prelude.{◌≡◌, Bool, true, false, List, [], ◌∷◌, ◌++◌, map, ℕ, ◌+◌, ◌≤◌, length, take, drop, Result, Ok}
use Rattle.datagram.specs.Refusals.{symbol_above}
use Rattle.datagram.specs.Padding.{pad_to}
use Rattle.listener.specs.declared.Listener.{Listener}
use Rattle.listener.specs.declared.Answer.{Answer}
use Rattle.listener.specs.declared.Answer.TheVariants.{Opened, Cancelled, Stray, Kept, HandedOut, Refused}
use Rattle.listener.specs.declared.Heard.{Heard}
use Rattle.listener.specs.State.{empty_listener}
use Rattle.message.specs.declared.Message.{Message}
use Rattle.message.specs.Range.{range_of}
use Rattle.message.specs.Spelling.{bytes_of, symbols_of}
use Rattle.datagram.specs.Position.{Outcome, outcome}
use Rattle.listener_laws.specs.Form.{Due, nothing, hands, refusal, Call, HeardAs, symbols_in}
use Rattle.datagram.specs.declared.Refusal.{Refusal}

-- each symbol is one call, in the state that the call before it returned, refused or not
abbrev pub run : (Listener → ℕ → Heard) → Listener → List ℕ → List Heard
run hear l [] = []
run hear l (s ∷ ss) = hear l s ∷ run hear (hear l s).listener ss

-- an answer that neither hands out nor refuses
abbrev pub passes : Answer → Bool
passes Opened = true
passes Cancelled = true
passes Stray = true
passes Kept = true
passes HandedOut = false
passes (Refused r) = false

-- nothing is handed out: no bytes, and their number 0
pub record NoBytes (h : Heard) : Type 0 where
  pub no_bytes : h.bytes ≡ pad_to 18 []
  pub no_count : h.count ≡ 0

-- the message's bytes, their number, the rest 0
pub record Hands (m : Message) (h : Heard) : Type 0 where
  pub handed : h.answer ≡ HandedOut
  pub its_bytes : h.bytes ≡ pad_to 18 (bytes_of m)
  pub their_number : h.count ≡ length (bytes_of m)

abbrev pub Shows : Due → Heard → Type 0
Shows nothing h = (passes h.answer ≡ true) × NoBytes h
Shows (hands m) h = Hands m h
Shows refusal h = (h.answer ≡ Refused symbol_above) × NoBytes h

-- each call shows what is due at it
abbrev pub AllShow : List Call → List Heard → Type 0
AllShow [] [] = Unit {0}
AllShow [] (h ∷ hs) = ⊥
AllShow (c ∷ cs) [] = ⊥
AllShow (c ∷ cs) (h ∷ hs) = Shows c.due h × AllShow cs hs

abbrev pub with_bytes : Answer → List ℕ → List (List ℕ) → List (List ℕ)
with_bytes Opened bytes later = later
with_bytes Cancelled bytes later = later
with_bytes Stray bytes later = later
with_bytes Kept bytes later = later
with_bytes HandedOut bytes later = bytes ∷ later
with_bytes (Refused r) bytes later = later

-- what was handed out, in order
abbrev pub handed_out : List Heard → List (List ℕ)
handed_out [] = []
handed_out (h ∷ hs) = with_bytes h.answer (take h.count h.bytes) (handed_out hs)

pub record Demand3 (hear : Listener → ℕ → Heard) (read : List ℕ → Result Message Refusal) (write : Message → List ℕ → ℕ → Outcome) : Type 0 where
  -- given room, the writer accepts each message in range and gives the symbols that it sounds as
  pub written : (m : Message) (buffer : List ℕ) (at : ℕ) → range_of m ≡ (Ok tt) → at + length (bytes_of m) ≤ length buffer
      → write m buffer at ≡ outcome (Ok (length (bytes_of m))) (take at buffer ++ (symbols_of m ++ drop (at + length (bytes_of m)) buffer))
  -- it accepts no other, so the form's messages are those that it accepts
  pub accepted : (m : Message) (buffer : List ℕ) (at n : ℕ) → (write m buffer at).answer ≡ Ok n → range_of m ≡ Ok tt
  -- whatever is heard in this form, from the empty state on, each call shows what is due
  pub shown : (ms : List Message) (calls : List Call) → HeardAs ms calls → AllShow calls (run hear empty_listener (symbols_in calls))
  -- the reader gives the list, in order, from the bytes handed out alone
  pub read_as : (ms : List Message) (calls : List Call) → HeardAs ms calls
      → map read (handed_out (run hear empty_listener (symbols_in calls))) ≡ map Ok ms
  -- lists heard as the same symbols are equal, whatever else was heard
  pub one_list : (ms ns : List Message) (calls others : List Call) → HeardAs ms calls → HeardAs ns others
      → symbols_in calls ≡ symbols_in others → ms ≡ ns

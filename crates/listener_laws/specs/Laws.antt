-- What holds of a listener over any list of symbols, and of where demand 3 starts.
use Rattle.std.specs.Prelude.{◌≡◌, true, List, [], ◌∷◌, map, ℕ, length, Ok}
use Rattle.listener.specs.declared.Listener.{Listener}
use Rattle.listener.specs.State.{sound, empty, empty_listener}
use Rattle.listener.specs.Step.{hear_of}
use Rattle.message.specs.declared.Message.{Message}
use Rattle.message.specs.Reading.{read_of}
use Rattle.listener_laws.specs.Form.{Call, HeardAs, symbols_in}
use Rattle.listener_laws.specs.Demand.{run, AllShow, handed_out}

-- the state after these symbols, each heard in the state that the call before it returned
abbrev pub after : Listener → List ℕ → Listener
after l [] = l
after l (s ∷ ss) = after (hear_of l s).listener ss

-- an empty listener as the code can have it: its array is one of 17
pub record Empty (l : Listener) : Type 0 where
  pub array : length l.bytes ≡ 17
  pub is_empty : empty l ≡ true

pub record ListenerLaws : Type 0 where
  -- soundness is kept whatever is heard, symbols above 511 too
  pub stays_sound : (l : Listener) (symbols : List ℕ) → sound l ≡ true → sound (after l symbols) ≡ true
  -- the state that demand 3 starts from is empty, and it is the only empty one
  pub starts_empty : Empty empty_listener
  pub one_empty : (l : Listener) → Empty l → l ≡ empty_listener
  -- so demand 3 holds from any empty listener: each call shows what is due, and what is handed out reads as the list
  pub shown_from : (l : Listener) → Empty l → (ms : List Message) (calls : List Call) → HeardAs ms calls
      → AllShow calls (run hear_of l (symbols_in calls))
  pub read_from_lem : (l : Listener) → Empty l → (ms : List Message) (calls : List Call) → HeardAs ms calls
      → map read_of (handed_out (run hear_of l (symbols_in calls))) ≡ map Ok ms

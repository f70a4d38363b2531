-- Wrong versions that demand 3 rules out: five listeners by the recording of `Instance`, and a private code by what must be written.
use Rattle.std.specs.Prelude.{Result, Ok}
use mathlib.Core.Path.{◌≡◌, refl, sym, ap, ◌∙◌}
use mathlib.Core.Bool.{cond}
use mathlib.Core.List.{List, [], ◌∷◌}
use Prim.Native.Nat.{ℕ, ◌-◌}
use native.Mathlib.Omega.{arith}
use lib.Dec.{eqb}
use lib.ListN.{length, get_or, set, length-map}
use Rattle.datagram.specs.Refusals.{not_sound}
use Rattle.datagram.specs.Padding.{pad_to}
use Rattle.listener.specs.declared.Listener.{Listener}
use Rattle.listener.specs.declared.Answer.{Answer}
use Rattle.listener.specs.declared.Answer.TheVariants.{Opened, Cancelled, Stray, Kept, HandedOut, Refused}
use Rattle.listener.specs.declared.Heard.{Heard}
use Rattle.listener.specs.State.{sound, empty_listener}
use Rattle.listener.specs.Step.{hear_of, step, quiet, refused_by}
use Rattle.message.specs.declared.Message.{Message}
use Rattle.message.specs.declared.Message.TheVariants.{Speed}
use Rattle.message.specs.Range.{range_of}
use Rattle.message.specs.Reading.{read_of}
use Rattle.message.specs.Spelling.{bytes_of}
use Rattle.datagram.specs.Position.{Outcome}
use Rattle.writer.specs.Writing.{ruled_write, write_of}
use Rattle.roundtrip_laws.proofs.RoundTrip.{round_trip}
use Rattle.listener_laws.specs.Form.{symbols_in, Below, none, one_more}
use Rattle.listener_laws.specs.Demand.{run, handed_out, Demand3}
use Rattle.listener_laws.proofs.Framing.{all_below_lem}
use Rattle.listener_laws.proofs.Instance.{messages, calls, recording}
use Rattle.datagram.specs.declared.Refusal.{Refusal}

-- what is handed out of the recording
abbrev handed_by : (Listener → ℕ → Heard) → List (List ℕ)
handed_by hear = handed_out (run hear empty_listener (symbols_in calls))

-- the recording has two messages, so two datagrams must be handed out
hands_two : (hear : Listener → ℕ → Heard) → Demand3 hear read_of write_of → length (handed_by hear) ≡ 2
hands_two hear d = sym (length-map (handed_by hear) read_of) ∙ ap length (d.read_as messages calls recording)

-- refuses every symbol
abbrev refuses_all : Listener → ℕ → Heard
refuses_all l s = refused_by not_sound l

pub refuses_all_lem : Demand3 refuses_all read_of write_of → ⊥
refuses_all_lem d = let two : ◌≡◌ {A = ℕ} 0 2 = hands_two refuses_all d in omega arith

-- takes every symbol for a stray
abbrev strays_always : Listener → ℕ → Heard
strays_always l s = quiet Stray l

pub strays_always_lem : Demand3 strays_always read_of write_of → ⊥
strays_always_lem d = let two : ◌≡◌ {A = ℕ} 0 2 = hands_two strays_always d in omega arith

-- answers as the listener and keeps the state it was given
abbrev never_changes : Listener → ℕ → Heard
never_changes l s = let h = hear_of l s in record { answer = h.answer; listener = l; bytes = h.bytes; count = h.count }

pub never_changes_lem : Demand3 never_changes read_of write_of → ⊥
unfolding hear_of step sound pad_to
never_changes_lem d = let two : ◌≡◌ {A = ℕ} 0 2 = hands_two never_changes d in omega arith

-- the state in which nothing more is framed
abbrev marked : Listener
marked = record { bytes = pad_to 17 []; held = 18 }

-- what the listener did, with that state once it hands out
abbrev marking : Answer → Heard → Heard
marking Opened h = h
marking Cancelled h = h
marking Stray h = h
marking Kept h = h
marking HandedOut h = record { answer = HandedOut; listener = marked; bytes = h.bytes; count = h.count }
marking (Refused r) h = h

-- frames the first datagram, and then only cancels
abbrev first_only : Listener → ℕ → Heard
first_only l s = cond (eqb l.held 18) (quiet Cancelled l) (marking (hear_of l s).answer (hear_of l s))

pub first_only_lem : Demand3 first_only read_of write_of → ⊥
unfolding hear_of step sound pad_to
first_only_lem d = let two : ◌≡◌ {A = ℕ} 1 2 = hands_two first_only d in omega arith

-- keeps waiting where it should hand out
abbrev waiting : Answer → Heard → Heard
waiting Opened h = h
waiting Cancelled h = h
waiting Stray h = h
waiting Kept h = h
waiting HandedOut h = quiet Kept h.listener
waiting (Refused r) h = h

-- never hands out
abbrev waits_forever : Listener → ℕ → Heard
waits_forever l s = waiting (hear_of l s).answer (hear_of l s)

pub waits : Demand3 waits_forever read_of write_of → ⊥
unfolding hear_of step sound pad_to
waits d = let two : ◌≡◌ {A = ℕ} 0 2 = hands_two waits_forever d in omega arith

-- the third byte inverted
abbrev inverted : List ℕ → List ℕ
inverted bytes = set bytes 2 (255 - get_or bytes 2 0)

-- reads a private code, in which the third byte is inverted
abbrev private_read : List ℕ → Result Message Refusal
private_read bytes = read_of (inverted bytes)

-- writes that code
abbrev private_write : Message → List ℕ → ℕ → Outcome
private_write m buffer at = ruled_write (range_of m) (inverted (bytes_of m)) buffer at

twice : {bytes : List ℕ} → Below bytes → inverted (inverted bytes) ≡ bytes
twice none = refl
twice (one_more h none) = refl
twice (one_more h (one_more k none)) = refl
twice (one_more h (one_more k (one_more {s = b} l more))) =
    let same : 255 - (255 - b) ≡ b = omega arith in
    rw same

-- the two agree with each other
pub private_reads_back : (m : Message) → range_of m ≡ (Ok tt) → private_read (inverted (bytes_of m)) ≡ Ok m
private_reads_back m i = rw (twice (all_below_lem (bytes_of m) (round_trip.all_bytes_lem m))) (round_trip.reads_back_lem m i)

-- and with nobody else: the writer must give the symbols of the table
pub private_code : Demand3 hear_of private_read private_write → ⊥
unfolding range_of bytes_of
private_code d =
    let e = d.written (Speed 62) (0 ∷ 0 ∷ 0 ∷ 0 ∷ []) 0 refl (omega arith) in
    let third : ◌≡◌ {A = ℕ} 193 62 = ap (λ (o : Outcome). get_or o.buffer 2 0) e in
    omega arith

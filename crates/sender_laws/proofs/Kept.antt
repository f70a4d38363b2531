-- Each call keeps soundness and the datagram, so any list of calls does.
use mathlib.Core.Path.{◌≡◌, refl, ap, ◌∙◌}
use mathlib.Core.Bool.{true}
use mathlib.Core.List.{List, [], ◌∷◌}
use Prim.Native.Nat.{◌+◌}
use native.Mathlib.Omega.{arith}
use Rattle.std.proofs.lemmas.Bool.Decides.{nat_tests}
use Rattle.sender.specs.declared.Phase.TheVariants as phase
use Rattle.sender.specs.declared.Sender.{Sender}
use Rattle.sender.specs.declared.Outcome.{Outcome}
use Rattle.sender.specs.State.{sound}
use Rattle.sender.proofs.State.{awaits}
use Rattle.sender_laws.specs.Run.{Terms, terms_of, Call, called, after}
use Rattle.sender_laws.proofs.Sound.{moved, waiting_left}
use Rattle.sender_laws.proofs.Moves.{Move, stays, starts, goes_on, finishes, waits_again, gives_up, move}

pub move_sound : {s : Sender} {c : Call} {o : Outcome} → Move s c o → sound s ≡ true → sound o.sender ≡ true
move_sound (stays answer quiet unheard) h = h
move_sound {s} (starts h e) also = let left = waiting_left s h e in moved s phase.Awaiting 0 s.failures (grind (arith, nat_tests)) h
move_sound {s} (goes_on h e more) also =
    let a = awaits s h e in moved s phase.Awaiting (s.position + 1) s.failures (grind (arith, nat_tests)) h
move_sound {s} (finishes h e end) also = let a = awaits s h e in moved s phase.Done (s.position + 1) s.failures (grind (arith, nat_tests)) h
move_sound {s} (waits_again h e more) also = let a = awaits s h e in moved s phase.Waiting 0 (s.failures + 1) (grind (arith, nat_tests)) h
move_sound {s} (gives_up h e all) also = moved s phase.GaveUp 0 (s.failures + 1) (grind (arith, nat_tests)) h

move_terms : {s : Sender} {c : Call} {o : Outcome} → Move s c o → terms_of o.sender ≡ terms_of s
move_terms (stays answer quiet unheard) = refl
move_terms (starts h e) = refl
move_terms (goes_on h e more) = refl
move_terms (finishes h e end) = refl
move_terms (waits_again h e more) = refl
move_terms (gives_up h e all) = refl

pub move_datagram : {s : Sender} {c : Call} {o : Outcome} → Move s c o → o.sender.datagram ≡ s.datagram
move_datagram m = ap (λ (t : Terms). t.datagram) (move_terms m)

pub after_sound : (s : Sender) (calls : List Call) → sound s ≡ true → sound (after s calls) ≡ true
after_sound s [] h = h
after_sound s (c ∷ cs) h = after_sound (called s c).sender cs (move_sound (move s c) h)

pub after_terms : (s : Sender) (calls : List Call) → terms_of (after s calls) ≡ terms_of s
after_terms s [] = refl
after_terms s (c ∷ cs) = after_terms (called s c).sender cs ∙ move_terms (move s c)

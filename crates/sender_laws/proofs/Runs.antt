-- An awaited run ends: each echo of a symbol ends it or moves it one position on, and the position stays below the length.
use Prim.Native.Nat.{suc, ◌+◌, ◌≤◌}
use native.Mathlib.Omega.{arith}
use mathlib.Core.Path.{◌≡◌, refl}
use mathlib.Core.Bool.{true, ◌||◌, or-true}
use mathlib.Core.List.{List, [], ◌∷◌}
use Rattle.sender.specs.declared.Phase.TheVariants as phase
use Rattle.sender.specs.declared.Sender.{Sender}
use Rattle.sender.specs.declared.Outcome.{Outcome}
use Rattle.sender.specs.State.{sound, length_of}
use Rattle.sender_laws.specs.Run.{Call, poll, echo, called, answers, ends, some_ends, echoes}
use Rattle.std.proofs.lemmas.Bool.Decides.{nat_tests}
use Rattle.sender.proofs.State.{awaits}
use Rattle.sender_laws.proofs.Moves.{Move, stays, starts, goes_on, finishes, waits_again, gives_up, move}
use Rattle.sender_laws.proofs.Kept.{move_sound}

-- after these calls a run awaited in this state has ended
abbrev Ends : Sender → List Call → Type 0
Ends s calls = sound s ≡ true → s.phase ≡ phase.Awaiting → length_of s ≤ s.position + echoes calls → some_ends (answers s calls) ≡ true

one_echo : (c : Call) (cs : List Call) → echoes (c ∷ cs) ≤ suc (echoes cs)
one_echo (poll time last) cs = omega arith
one_echo (echo symbol) cs = grind (arith, nat_tests)

move_ends : {s : Sender} {c : Call} {o : Outcome} → Move s c o → (cs : List Call) → Ends o.sender cs
    → sound s ≡ true → s.phase ≡ phase.Awaiting → length_of s ≤ s.position + echoes (c ∷ cs)
    → (ends o.answer || some_ends (answers o.sender cs)) ≡ true
move_ends {s} (stays answer quiet unheard) cs later h e k =
    rw (later h e (rw (unheard h e cs) at k)) (or-true (ends answer))
move_ends (starts h f) cs later also e k = cc
move_ends {s} {c} (goes_on h f more) cs later also e k =
    later (move_sound {c = c} (goes_on h f more) h) refl (omega (arith, one_echo c cs))
move_ends (finishes h f end) cs later also e k = refl
move_ends (waits_again h f more) cs later also e k = refl
move_ends (gives_up h f all) cs later also e k = refl

pub awaited_ends : (s : Sender) (calls : List Call) → Ends s calls
awaited_ends s [] h e k = let a = awaits s h e in absurd (omega arith)
awaited_ends s (c ∷ cs) h e k = move_ends (move s c) cs (awaited_ends (called s c).sender cs) h e k

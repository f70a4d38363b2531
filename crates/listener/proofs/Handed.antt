-- What a listener hands out is a whole datagram of at most 18 bytes, and leaves nothing held.
use mathlib.Core.Path.{◌≡◌, refl, sym, ◌∙◌}
use mathlib.Core.Bool.{Bool, true, false, cond, false≢true}
use mathlib.Core.List.{List, [], ◌∷◌, ◌++◌}
use Prim.Native.Nat.{ℕ, ◌-◌, ◌≤◌}
use native.Mathlib.Omega.{arith}
use borrow.Author.Tests.{eqb-true, eq-eqb, le-leb}
use lib.Dec.{leb, ltb, eqb}
use lib.ListN.{length, get_or, take}
use Rattle.datagram.specs.Whole.{declared, whole}
use Rattle.datagram.proofs.Padding.{take_pad}
use Rattle.listener.specs.declared.Listener.{Listener}
use Rattle.listener.specs.declared.Answer.{Answer}
use Rattle.listener.specs.declared.Answer.TheVariants.{Opened, Cancelled, Stray, Kept, Refused}
use Rattle.listener.specs.declared.Heard.{Heard}
use Rattle.listener.specs.Answers.{is_handed}
use Rattle.listener.specs.State.{sound, held_bytes, holding, empty_listener}
use Rattle.listener.specs.Step.{hear_of, step, quiet, command_symbol, other_symbol, reaching, refused_by}
use Rattle.datagram.specs.Refusals.{symbol_above, not_sound}

-- what is handed out is at most 18 bytes and whole, and leaves nothing held; else nothing is
abbrev Hands : Heard → Type 0
Hands h =
    (is_handed h.answer ≡ true → (h.count ≤ 18) × (whole (take h.count h.bytes) ≡ true) × (h.listener ≡ empty_listener))
    × (is_handed h.answer ≡ false → h.count ≡ 0)

pub declared_whole : (xs : List ℕ) → length xs ≡ declared (get_or xs 1 0) → whole xs ≡ true
unfolding whole
declared_whole xs e =
    rw (le-leb 3 (length xs) (omega arith), le-leb (length xs) 18 (omega arith), eq-eqb (length xs) (declared (get_or xs 1 0)) e)

hands_nothing : (answer : Answer) (l : Listener) → is_handed answer ≡ false → Hands (quiet answer l)
hands_nothing answer l e = (λ h. absurd (false≢true (sym e ∙ h)), λ f. refl)

reached : (xs : List ℕ) (t : Bool) → eqb (length xs) (declared (get_or xs 1 0)) ≡ t → Hands (reaching xs)
reached xs true e =
    let full : length xs ≡ declared (get_or xs 1 0) = eqb-true (length xs) (declared (get_or xs 1 0)) e in
    rw e (λ h. (omega arith, rw (take_pad 18 xs) (declared_whole xs full), refl), λ f. absurd (false≢true (sym f)))
reached xs false e = rw e (hands_nothing Kept (holding xs) refl)

other : (xs : List ℕ) (b : ℕ) → Hands (other_symbol xs b)
other [] b = hands_nothing Stray empty_listener refl
other (x ∷ xs) b =
    let all = (x ∷ xs) ++ (b ∷ []) in reached all (eqb (length all) (declared (get_or all 1 0))) refl

command : (xs : List ℕ) (b : ℕ) → Hands (command_symbol xs b)
command [] b = hands_nothing Opened (holding (b ∷ [])) refl
command (x ∷ xs) b = hands_nothing Cancelled (holding (b ∷ [])) refl

either : (t : Bool) (g h : Heard) → Hands g → Hands h → Hands (cond t g h)
either true g h a b = a
either false g h a b = b

pub hands : (l : Listener) (s : ℕ) → Hands (hear_of l s)
unfolding hear_of step
hands l s =
    either (ltb 511 s) (refused_by symbol_above l) (cond (sound l) (step (held_bytes l) s) (refused_by not_sound l)) (hands_nothing (Refused symbol_above) l refl)
    (either (sound l) (step (held_bytes l) s) (refused_by not_sound l)
    (either (leb 256 s) (command_symbol (held_bytes l) (s - 256)) (other_symbol (held_bytes l) s) (command (held_bytes l) (s - 256))
    (other (held_bytes l) s)) (hands_nothing (Refused not_sound) l refl))

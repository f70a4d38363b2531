-- Soundness is kept: a sound state holds unfinished bytes, and the step leaves none, one, or still unfinished ones.
use Prim.Native.Nat.{ℕ, ◌-◌, ◌≤◌, ◌<◌}
use mathlib.Core.Path.{◌≡◌, refl, sym, ◌∙◌}
use mathlib.Core.Bool.{Bool, true, false, cond, and-eq-true_iff}
use mathlib.Core.List.{List, [], ◌∷◌, ◌++◌}
use native.Mathlib.Omega.{arith}
use borrow.Author.Tests.{ltb-true, ltb-false, eqb-false}
use lib.Dec.{leb, ltb, eqb}
use lib.ListN.{length, get_or, drop, length-append, length-take}
use lib.Seq.{get_or-take}
use Rattle.datagram.specs.Whole.{declared}
use Rattle.datagram.specs.Padding.{all_zero}
use Rattle.listener.specs.declared.Listener.{Listener}
use Rattle.listener.specs.declared.Answer.TheVariants.{Kept}
use Rattle.listener.specs.State.{sound, held_bytes, holding}
use Rattle.listener.specs.Step.{hear_of, step, command_symbol, other_symbol, reaching, handed, quiet}
use Rattle.listener.proofs.Order.{refused_above, step_taken}
use Rattle.listener.proofs.Sound.{sound_is, sound_holding}
use Rattle.listener.proofs.Held.{Unfinished}

unfinished : (l : Listener) → sound l ≡ true → Unfinished (held_bytes l)
unfinished l s =
    let parts = (and-eq-true_iff (ltb l.held (declared (get_or l.bytes 1 0))) (all_zero (drop l.held l.bytes))).0 (sym (sound_is l) ∙ s) in
    let short : l.held < declared (get_or l.bytes 1 0) = ltb-true l.held (declared (get_or l.bytes 1 0)) parts.0 in
    go short (ltb 1 l.held) refl
  where
    few : length (held_bytes l) ≤ l.held
    few = omega (arith, length-take l.held l.bytes)

    go : l.held < declared (get_or l.bytes 1 0) → (b : Bool) → ltb 1 l.held ≡ b → Unfinished (held_bytes l)
    go short true two = omega (arith, few, get_or-take l.held l.bytes 1 0 (ltb-true 1 l.held two))
    go short false one = omega (arith, few, ltb-false 1 l.held one)

command_sound : (xs : List ℕ) (byte : ℕ) → sound (command_symbol xs byte).listener ≡ true
command_sound [] byte = sound_holding (byte ∷ []) (omega arith) (omega arith)
command_sound (x ∷ xs) byte = sound_holding (byte ∷ []) (omega arith) (omega arith)

reaching_sound : (xs : List ℕ) → length xs ≤ declared (get_or xs 1 0) → sound (reaching xs).listener ≡ true
reaching_sound xs h = go (eqb (length xs) (declared (get_or xs 1 0))) refl
  where
    go : (b : Bool) → eqb (length xs) (declared (get_or xs 1 0)) ≡ b → sound (cond b (handed xs) (quiet Kept (holding xs))).listener ≡ true
    go true e = sound_holding [] (omega arith) (omega arith)
    go false e =
        let differ = eqb-false (length xs) (declared (get_or xs 1 0)) e in
        let short : length xs < declared (get_or xs 1 0) = omega (arith, differ) in
        sound_holding xs (omega arith) short

other_sound : (xs : List ℕ) (byte : ℕ) → Unfinished xs → sound (other_symbol xs byte).listener ≡ true
other_sound [] byte u = sound_holding [] (omega arith) (omega arith)
other_sound (x ∷ []) byte u = reaching_sound (x ∷ byte ∷ []) (omega arith)
other_sound (x ∷ y ∷ xs) byte u = reaching_sound (x ∷ y ∷ (xs ++ (byte ∷ []))) (omega (arith, length-append xs (byte ∷ [])))

either_sound : (b : Bool) (xs : List ℕ) (symbol : ℕ) → Unfinished xs
    → sound (cond b (command_symbol xs (symbol - 256)) (other_symbol xs symbol)).listener ≡ true
either_sound true xs symbol u = command_sound xs (symbol - 256)
either_sound false xs symbol u = other_sound xs symbol u

step_sound : (xs : List ℕ) (symbol : ℕ) → Unfinished xs → sound (step xs symbol).listener ≡ true
unfolding step
step_sound xs symbol u = either_sound (leb 256 symbol) xs symbol u

pub hear_sound : (l : Listener) (symbol : ℕ) → sound l ≡ true → sound (hear_of l symbol).listener ≡ true
hear_sound l symbol s = go (ltb 511 symbol) refl
  where
    go : (b : Bool) → ltb 511 symbol ≡ b → sound (hear_of l symbol).listener ≡ true
    go true e = rw (refused_above l symbol (ltb-true 511 symbol e)) s
    go false e = rw (step_taken l symbol (ltb-false 511 symbol e) s) (step_sound (held_bytes l) symbol (unfinished l s))

-- Integers of either sign: a difference of words, and what the machine reads back from its bits. The laws are for whoever proves over these
-- numbers; no proof of this repository needs them now. `docs/CHANGES.md` names `handed`.
use mathlib.Core.Path.{◌≡◌, refl, ap, ◌∙◌}
use mathlib.Core.Bool.{Bool, true, false, cond}
use Prim.Native.Nat.{ℕ, zero, suc, ◌-◌, ◌^◌, ◌<◌}
use native.Mathlib.Omega.{arith}
use borrow.Author.Tests.{le-ltb, ltb-true}
use lib.Dec.{ltb}
use lib.IntN.{ℤ, pos, negsuc, sub_ℕ, ◌-ℤ◌}
use lib.Signed.{mag, le_z, lt_z}
use mir.Syntax.{Width, w32}
use mir.Val.{SFits, to_z, of_z, hbits}
use mir.ValLaws.{to_z-of_z}

diff : (a b : ℕ) → pos a -ℤ pos b ≡ sub_ℕ a b
diff a zero = rw (le-ltb a 0 (omega arith)) (ap pos (omega arith))
diff a (suc b) = refl

pub diff_small : (a b n : ℕ) → a < n → b < n → mag (pos a -ℤ pos b) < n
diff_small a b n ha hb = rw diff (go (ltb a b))
  where
    go : (t : Bool) → mag (cond t (negsuc (b - suc a)) (pos (a - b))) < n
    go true = omega arith
    go false = omega arith

-- a signed number handed from one call to another, as the machine reads it back from its bits
pub handed : (w : Width) {z y : ℤ} → mag z < 2 ^ hbits w → z ≡ y → to_z w (of_z w z) ≡ y
handed w {z} h e = to_z-of_z w z (record { sfits = h }) ∙ e

-- the sign of a number, as a test of what the machine reads back from its bits shows it
module _ (w : Width) (z : ℤ) (fits : SFits w z) where
  pub below_zero : lt_z (to_z w (of_z w z)) (pos 0) ≡ true → z ≡ negsuc (mag z)
  below_zero t = go z (rw (to_z-of_z w z fits) at t)
    where
      go : (y : ℤ) → lt_z y (pos 0) ≡ true → y ≡ negsuc (mag y)
      go (pos n) t = absurd (omega (arith, ltb-true n 0 t))
      go (negsuc n) t = refl

  pub from_zero : lt_z (to_z w (of_z w z)) (pos 0) ≡ false → z ≡ pos (mag z)
  from_zero t = go z (rw (to_z-of_z w z fits) at t)
    where
      go : (y : ℤ) → lt_z y (pos 0) ≡ false → y ≡ pos (mag y)
      go (pos n) t = refl
      go (negsuc n) t = let e : true ≡ false = t in cc

-- a test of two 32-bit numbers, as the machine reads them back from their bits
pub le_read : (a b : ℤ) (t : Bool) → SFits w32 a → SFits w32 b → le_z (to_z w32 (of_z w32 a)) (to_z w32 (of_z w32 b)) ≡ t → le_z a b ≡ t
le_read a b t ha hb e = rw (to_z-of_z w32 a ha, to_z-of_z w32 b hb) at e

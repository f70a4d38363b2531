-- What a `match` on a number tells where no arm of the numbers below n was taken.
use mathlib.Core.Path.{◌≡◌}
use Prim.Native.Nat.{ℕ, zero, suc, ◌≤◌}
use native.Mathlib.Omega.{arith}

abbrev pub Skipped : ℕ → ℕ → Type 0
Skipped zero index = Unit
Skipped (suc n) index = Skipped n index × (index ≡ n → ⊥)

pub skipped : (n index : ℕ) → Skipped n index → n ≤ index
skipped zero index s = omega arith
skipped (suc n) index s = let before = skipped n index s.0 in omega (arith, before, s.1)

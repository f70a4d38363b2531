-- What it says of the fields that a message is in range.
use Rattle.std.specs.Prelude.{Result, Ok, Err, ⊤}
use mathlib.Core.Path.{◌≡◌, refl}
use mathlib.Core.Bool.{Bool, true, false, cond, and-eq-true_iff}
use Prim.Native.Nat.{ℕ, ◌≤◌}
use native.Mathlib.Omega.{arith}
use lib.Dec.{leb}
use lib.IntN.{ℤ}
use lib.Signed.{le_z}
use borrow.Author.Tests.{leb-true}
use Rattle.datagram.specs.declared.Refusal.{Refusal}
use Rattle.message.specs.Range.{at_most, from_one, within, and_then}

passed : (b : Bool) (r : Refusal) → ◌≡◌ {A = Result ⊤ Refusal} (cond b (Ok tt) (Err r)) (Ok tt) → b ≡ true
passed true r e = refl
passed false r e = let z : ◌≡◌ {A = ℕ} 0 1 = cc in absurd (omega arith)

pub at_most_lem : (k limit n : ℕ) → at_most k limit n ≡ (Ok tt) → n ≤ limit
at_most_lem k limit n e = leb-true n limit (passed (leb n limit) _ e)

pub from_one_lem : (k limit n : ℕ) → from_one k limit n ≡ (Ok tt) → n ≤ limit
from_one_lem k limit n e = leb-true n limit ((and-eq-true_iff (leb 1 n) (leb n limit)).0 (passed _ _ e)).1

pub inside : (k : ℕ) (low high z : ℤ) → within k low high z ≡ (Ok tt) → (le_z low z ≡ true) × (le_z z high ≡ true)
inside k low high z e = (and-eq-true_iff (le_z low z) (le_z z high)).0 (passed _ _ e)

pub both : (v w : Result ⊤ Refusal) → and_then v w ≡ (Ok tt) → (v ≡ (Ok tt)) × (w ≡ (Ok tt))
both (Ok tt) w e = (refl, e)
both (Err r) w e = let z : ◌≡◌ {A = ℕ} 0 1 = cc in absurd (omega arith)

pub both_at_most : (k limit n k' limit' n' : ℕ) → and_then (at_most k limit n) (at_most k' limit' n') ≡ Ok tt
    → (n ≤ limit) × (n' ≤ limit')
both_at_most k limit n k' limit' n' e =
    let parts = both (at_most k limit n) (at_most k' limit' n') e in
    (at_most_lem k limit n parts.0, at_most_lem k' limit' n' parts.1)

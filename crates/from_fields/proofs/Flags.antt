-- A bad flag stands inside the fields, and so inside their bytes.
use Rattle.std.specs.Prelude.{Option, None, Some, IfSome}
use mathlib.Core.Path.{◌≡◌, refl, ap}
use mathlib.Core.Bool.{Bool, true, false, cond}
use mathlib.Core.List.{List, [], ◌∷◌}
use Prim.Native.Nat.{ℕ, ◌-◌, ◌*◌, ◌≤◌, ◌<◌}
use native.Mathlib.Omega.{arith}
use borrow.Author.Tests.{leb-true, leb-false}
use lib.Dec.{leb}
use lib.IntN.{ℤ, pos}
use lib.ListN.{length, get_or-eq_default}
use mir.Syntax.{w32}
use mir.Val.{of_z}
use Rattle.from_fields.specs.Numbers.{numbers_of}
use Rattle.from_fields.specs.Naming.{natural, bad_flag}
use Rattle.from_fields.proofs.Loads.{four_each}

-- past the end a field is 0, which is a flag
inside : (zs : List ℤ) (k : ℕ) → 1 < natural zs (k - 1) → k ≤ length zs
inside zs k bad = go (leb k (length zs)) refl
  where
    go : (b : Bool) → leb k (length zs) ≡ b → k ≤ length zs
    go true e = leb-true k (length zs) e
    go false e =
        let past : length zs ≤ k - 1 = omega (arith, leb-false k (length zs) e) in
        let zero-there : natural zs (k - 1) ≡ 0 = ap (of_z w32) (get_or-eq_default zs (pos 0) past) in
        absurd (omega arith)

pub bad_inside : (ks : List ℕ) (zs : List ℤ) → IfSome (bad_flag ks zs) (λ k. k ≤ length zs)
bad_inside [] zs = tt
bad_inside (k ∷ ks) zs = go (leb (natural zs (k - 1)) 1) refl (bad_inside ks zs)
  where
    go : (b : Bool) → leb (natural zs (k - 1)) 1 ≡ b → IfSome (bad_flag ks zs) (λ j. j ≤ length zs)
        → IfSome (cond b (bad_flag ks zs) (Some k)) (λ j. j ≤ length zs)
    go true e later = later
    go false e later = inside zs k (leb-false (natural zs (k - 1)) 1 e)

pub bad_in_bytes : (ks fs : List ℕ) → IfSome (bad_flag ks (numbers_of fs)) (λ k. 4 * k ≤ length fs)
bad_in_bytes ks fs = go (bad_flag ks (numbers_of fs)) (bad_inside ks (numbers_of fs))
  where
    go : (o : Option ℕ) → IfSome o (λ k. k ≤ length (numbers_of fs)) → IfSome o (λ k. 4 * k ≤ length fs)
    go None h = tt
    go (Some k) h = omega (arith, h, four_each fs)

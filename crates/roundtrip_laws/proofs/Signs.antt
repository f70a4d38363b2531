-- The signed fields on the bus: a word less 100, a signed byte, and minus a signed byte.
use mathlib.Core.Path.{◌≡◌, refl, ap, ◌∙◌}
use mathlib.Core.Bool.{Bool, true, false}
use Prim.Native.Nat.{ℕ, zero, suc, ◌+◌, ◌-◌, ◌%◌, ◌≤◌, ◌<◌}
use native.Mathlib.Omega.{arith}
use lib.Dec.{ltb}
use lib.IntN.{ℤ, pos, negsuc, neg_ℤ, ◌-ℤ◌}
use lib.Signed.{le_z}
use mir.Syntax.{w8, w32}
use mir.Val.{to_z, of_z}
use mir.ValLaws.{to_z_pos, to_z-neg}
use borrow.Author.Tests.{leb-true, ltb-true, ltb-false, lt-ltb, le-ltb}

-- a word less 100
less_pos : (w n : ℕ) → w ≡ n + 100 → pos w -ℤ pos 100 ≡ pos n
less_pos w n e = rw (le-ltb w 100 (omega arith)) (ap pos (omega arith))

less_neg : (w n : ℕ) → w + suc n ≡ 100 → pos w -ℤ pos 100 ≡ negsuc n
less_neg w n e = rw (lt-ltb w 100 (omega arith)) (ap negsuc (omega arith))

pub water_reads : (z : ℤ) → le_z (neg_ℤ (pos 100)) z ≡ true → le_z z (pos 65435) ≡ true
    → (w : ℕ) → w ≡ (of_z w32 z + 100) % 65536 → pos w -ℤ pos 100 ≡ z
water_reads (pos n) low high w e =
    let h : n ≤ 65435 = leb-true n 65435 high in
    less_pos w n (omega arith)
water_reads (negsuc n) low high w e =
    let h : n ≤ 99 = leb-true n 99 low in
    less_neg w n (omega arith)

pub water_spells : (w : ℕ) → w < 65536 → (of_z w32 (pos w -ℤ pos 100) + 100) % 65536 ≡ w
water_spells w h = go (ltb w 100) refl
  where
    go : (b : Bool) → ltb w 100 ≡ b → (of_z w32 (pos w -ℤ pos 100) + 100) % 65536 ≡ w
    go true e = rw e (omega (arith, ltb-true w 100 e))
    go false e = rw e (omega (arith, ltb-false w 100 e))

-- a signed byte
pub rudder_reads : (z : ℤ) → le_z (neg_ℤ (pos 128)) z ≡ true → le_z z (pos 127) ≡ true → to_z w8 (of_z w32 z % 256) ≡ z
rudder_reads (pos n) low high =
    let h : n ≤ 127 = leb-true n 127 high in
    let e : n % 256 ≡ n = omega arith in
    ap (to_z w8) e ∙ to_z_pos w8 n (omega arith)
rudder_reads (negsuc n) low high =
    let h : n ≤ 127 = leb-true n 127 low in
    let e : (4294967296 - suc n) % 256 ≡ 256 - suc n = omega arith in
    ap (to_z w8) e ∙ to_z-neg w8 n (omega arith)

-- minus a signed byte
pub variation_reads : (z : ℤ) → le_z (neg_ℤ (pos 127)) z ≡ true → le_z z (pos 128) ≡ true
    → neg_ℤ (to_z w8 ((256 - of_z w32 z % 256) % 256)) ≡ z
variation_reads (pos zero) low high = refl
variation_reads (pos (suc n)) low high =
    let h : suc n ≤ 128 = leb-true (suc n) 128 high in
    let e : (256 - suc n % 256) % 256 ≡ 256 - suc n = omega arith in
    ap (λ (b : ℕ). neg_ℤ (to_z w8 b)) e ∙ ap neg_ℤ (to_z-neg w8 n (omega arith))
variation_reads (negsuc n) low high =
    let h : n ≤ 126 = leb-true n 126 low in
    let e : (256 - (4294967296 - suc n) % 256) % 256 ≡ suc n = omega arith in
    ap (λ (b : ℕ). neg_ℤ (to_z w8 b)) e ∙ ap neg_ℤ (to_z_pos w8 (suc n) (omega arith))

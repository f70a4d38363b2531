-- Each angle has exactly one spelling: what is spelled reads back, and what is read is spelled the same.
-- Each law of half and whole degrees is one test that antt computes over all angles, or over all digits.
use mathlib.Core.Path.{◌≡◌, refl, ap₂}
use mathlib.Core.Bool.{Bool, true, false, beq}
use Prim.Native.Nat.{ℕ, ◌+◌, ◌*◌, ◌/◌, ◌%◌, ◌<◌}
use native.Mathlib.Omega.{arith}
use native.Mathlib.Nat.{mod-lt}
use lib.Dec.{T, eqb, eqb→eq}
use Rattle.number.proofs.Finite.{every, at}
use Rattle.angle.specs.declared.Digits.{Digits}
use Rattle.angle.specs.Half.{half_angle, half_digits}
use Rattle.angle.specs.Degree.{whole_angle, turns_right, whole_digits}
use Rattle.angle.specs.Quarter.{quarter_angle, quarter_digits}

-- a test that holds at each digit U and each six up to 44
at_digits : (f : ℕ → ℕ → Bool) → T (every 16 (λ u. every 45 (f u))) → (u six : ℕ) → u < 16 → six < 45 → T (f u six)
at_digits f t u six hu hs = at 45 (f u) (at 16 (λ v. every 45 (f v)) t u hu) six hs

-- a test that both digits of a spelling are these
spelled_by : (ℕ → ℕ → Digits) → ℕ → ℕ → Bool
spelled_by spelling u six = eqb ((spelling u six).u * 64 + (spelling u six).six) (u * 64 + six)

digits : (d : Digits) (u six : ℕ) → d.six < 64 → six < 64 → T (eqb (d.u * 64 + d.six) (u * 64 + six)) → d ≡ record { u = u; six = six }
digits d u six hd hs t =
    let e : d.u * 64 + d.six ≡ u * 64 + six = eqb→eq _ _ t in
    ap₂ (λ (v w : ℕ). record { u = v; six = w }) (omega arith) (omega arith)

-- half degrees
half_reads : ℕ → Bool
half_reads v = eqb (half_angle (half_digits v).u (half_digits v).six) v

pub half_reads_lem : (v : ℕ) → v < 720 → half_angle (half_digits v).u (half_digits v).six ≡ v
unfolding half_reads
half_reads_lem v h = eqb→eq _ v (at 720 half_reads tt v h)

pub half_u : (v : ℕ) → (half_digits v).u < 16
half_u v = omega (arith, mod-lt (v / 180) {m = 4} (omega arith))

pub half_six : (v : ℕ) → (half_digits v).six < 45
half_six v = omega arith

pub half_spells : (u six : ℕ) → u < 16 → six < 45 → half_digits (half_angle u six) ≡ record { u = u; six = six }
unfolding spelled_by
half_spells u six hu hs =
    digits (half_digits (half_angle u six)) u six (omega (arith, half_six (half_angle u six))) (omega arith)
    (at_digits (spelled_by (λ v w. half_digits (half_angle v w))) tt u six hu hs)

-- whole degrees and the turning way
whole_reads : Bool → ℕ → Bool
whole_reads right d = eqb (whole_angle (whole_digits d right).u (whole_digits d right).six) d

keeps_way : Bool → ℕ → Bool
keeps_way right d = beq (turns_right (whole_digits d right).u) right

pub same_way : (a b : Bool) → T (beq a b) → a ≡ b
same_way true true t = refl
same_way true false t = absurd t
same_way false true t = absurd t
same_way false false t = refl

pub whole_reads_lem : (d : ℕ) (right : Bool) → d < 360 → whole_angle (whole_digits d right).u (whole_digits d right).six ≡ d
unfolding whole_reads
whole_reads_lem d true h = eqb→eq _ d (at 360 (whole_reads true) tt d h)
whole_reads_lem d false h = eqb→eq _ d (at 360 (whole_reads false) tt d h)

pub whole_way : (d : ℕ) (right : Bool) → d < 360 → turns_right (whole_digits d right).u ≡ right
unfolding keeps_way
whole_way d true h = same_way _ _ (at 360 (keeps_way true) tt d h)
whole_way d false h = same_way _ _ (at 360 (keeps_way false) tt d h)

pub whole_u : (d : ℕ) (right : Bool) → (whole_digits d right).u < 16
whole_u d true = omega (arith, mod-lt ((d % 360 + 359) % 360 / 90) {m = 4} (omega arith))
whole_u d false = omega (arith, mod-lt (d % 360 / 90) {m = 4} (omega arith))

pub whole_six : (d : ℕ) (right : Bool) → (whole_digits d right).six < 45
whole_six d true = omega arith
whole_six d false = omega arith

pub whole_spells : (u six : ℕ) → u < 16 → six < 45 → whole_digits (whole_angle u six) (turns_right u) ≡ record { u = u; six = six }
unfolding spelled_by
whole_spells u six hu hs =
    digits (whole_digits (whole_angle u six) (turns_right u)) u six (omega (arith, whole_six (whole_angle u six) (turns_right u))) (omega arith)
    (at_digits (spelled_by (λ v w. whole_digits (whole_angle v w) (turns_right v))) tt u six hu hs)

-- half degrees by quarters
pub quarter_reads : (v : ℕ) → v < 720 → quarter_angle (quarter_digits v).quarter (quarter_digits v).xy ≡ v
quarter_reads v h = omega arith

pub quarter_most : (v : ℕ) → ((quarter_digits v).quarter < 4) × ((quarter_digits v).xy < 180)
quarter_most v = (mod-lt (v / 180) {m = 4} (omega arith), omega arith)

pub quarter_spells : (quarter xy : ℕ) → quarter < 4 → xy < 180 → quarter_digits (quarter_angle quarter xy) ≡ record { quarter = quarter; xy = xy }
quarter_spells quarter xy hq hx =
    ap₂ (λ (q x : ℕ). record { quarter = q; xy = x }) (omega arith) (omega arith)

-- What the bytes of an angle and a signed byte spell is in range, so that the reader makes no test of it. `docs/CHANGES.md` names these
-- laws; the check finds the reader's kinds without them.
use mathlib.Core.Path.{◌≡◌, refl}
use mathlib.Core.Bool.{Bool, true, false, ◌&&◌}
use Prim.Native.Nat.{ℕ, ◌≤◌}
use native.Mathlib.Omega.{arith}
use lib.Dec.{T, leb}
use lib.IntN.{pos, neg_ℤ}
use lib.Signed.{le_z}
use mir.Syntax.{w8}
use mir.Val.{Fits, to_z}
use denote.Floats.{is_true}
use borrow.Author.Tests.{le-leb, leb-true}
use Rattle.std.specs.Prelude.{Result, Ok, ⊤}
use Rattle.number.proofs.Finite.{every, at}
use Rattle.datagram.specs.declared.Refusal.{Refusal}
use Rattle.angle.specs.Degree.{whole_angle}
use Rattle.angle.specs.Quarter.{quarter_angle}
use Rattle.message.specs.declared.Message.{Message}
use Rattle.message.specs.Range.{range_of, at_most, and_then}
use Rattle.message.specs.Decode.{spelled}
use Rattle.message.specs.Reading.{ruled, judged}

-- whole degrees of a digit and six bits
pub whole_fits : (u six : ℕ) → leb (whole_angle u six) 359 ≡ true
whole_fits u six = le-leb (whole_angle u six) 359 (omega arith)

-- half degrees of a quarter and XY
pub quarter_fits : (quarter xy : ℕ) → quarter ≤ 3 → xy ≤ 179 → leb (quarter_angle quarter xy) 719 ≡ true
quarter_fits quarter xy hq hx = le-leb (quarter_angle quarter xy) 719 (omega arith)

-- a test that passes at each byte
pub each_byte : (f : ℕ → Bool) → T (every 256 f) → {b : ℕ} → Fits w8 b → f b ≡ true
each_byte f t {b} h = is_true (f b) (at 256 f t b h.fits)

-- a signed byte
pub signed_fits : {b : ℕ} → Fits w8 b → (le_z (neg_ℤ (pos 128)) (to_z w8 b) && le_z (to_z w8 b) (pos 127)) ≡ true
signed_fits h = each_byte (λ b. le_z (neg_ℤ (pos 128)) (to_z w8 b) && le_z (to_z w8 b) (pos 127)) tt h

-- a message of an angle, field 1, and half degrees by quarters, field k, that is in range where both are spelled right: the
-- verdict on the spelling decides (84 and 89)
pub by_spelling : (k six xy : ℕ) (m : Message) (v : Result ⊤ Refusal) → and_then (at_most 1 44 six) (at_most k 179 xy) ≡ v
    → (six ≤ 44 → xy ≤ 179 → range_of m ≡ Ok tt)
    → ruled v m ≡ judged (spelled 1 (leb six 44) (spelled k (leb xy 179) (Ok m)))
by_spelling k six xy m v e fits = go (leb six 44) (leb xy 179) refl refl
  where
    go : (b c : Bool) → leb six 44 ≡ b → leb xy 179 ≡ c → ruled v m ≡ judged (spelled 1 (leb six 44) (spelled k (leb xy 179) (Ok m)))
    go true true p q = rw (← e, p, q, fits (leb-true six 44 p) (leb-true xy 179 q))
    go true false p q = rw (← e, p, q)
    go false true p q = rw (← e, p)
    go false false p q = rw (← e, p)

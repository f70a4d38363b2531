-- The numbers that bytes say, one by one.
use Rattle.std.specs.Int.{from_le_bytes}
use mathlib.Core.Path.{◌≡◌, refl, ap}
use mathlib.Core.List.{List, [], ◌∷◌}
use Prim.Native.Nat.{ℕ, zero, suc, ◌+◌, ◌*◌, ◌≤◌, ◌<◌}
use native.Mathlib.Omega.{arith}
use lib.IntN.{pos}
use lib.ListN.{length, take, drop}
use mir.Syntax.{w32}
use mir.Val.{to_z}
use Rattle.from_fields.specs.Numbers.{numbers_of}
use Rattle.from_fields.specs.Naming.{signed}

-- the four bytes from a position on
pub within : (fs : List ℕ) (i : ℕ) → 4 * i + 4 ≤ length fs → to_z w32 (from_le_bytes w32 (take 4 (drop (4 * i) fs))) ≡ signed (numbers_of fs) i
within [] i h = absurd (omega arith)
within (a ∷ []) i h = absurd (omega arith)
within (a ∷ b ∷ []) i h = absurd (omega arith)
within (a ∷ b ∷ c ∷ []) i h = absurd (omega arith)
within (a ∷ b ∷ c ∷ d ∷ rest) zero h = ap (to_z w32) (omega arith)
within (a ∷ b ∷ c ∷ d ∷ rest) (suc i) h =
    let e : 4 * suc i ≡ suc (suc (suc (suc (4 * i)))) = omega arith in
    rw e (within rest i (omega arith))

pub past : (fs : List ℕ) (i : ℕ) → length fs < 4 * i + 4 → signed (numbers_of fs) i ≡ pos 0
past [] i h = refl
past (a ∷ []) i h = refl
past (a ∷ b ∷ []) i h = refl
past (a ∷ b ∷ c ∷ []) i h = refl
past (a ∷ b ∷ c ∷ d ∷ rest) zero h = absurd (omega arith)
past (a ∷ b ∷ c ∷ d ∷ rest) (suc i) h = past rest i (omega arith)

-- the first k numbers are those of the first 4 * k bytes
pub front : (fs : List ℕ) (k : ℕ) → 4 * k ≤ length fs → numbers_of (take (4 * k) fs) ≡ take k (numbers_of fs)
front fs zero h = refl
front [] (suc k) h = absurd (omega arith)
front (a ∷ []) (suc k) h = absurd (omega arith)
front (a ∷ b ∷ []) (suc k) h = absurd (omega arith)
front (a ∷ b ∷ c ∷ []) (suc k) h = absurd (omega arith)
front (a ∷ b ∷ c ∷ d ∷ rest) (suc k) h =
    let e : 4 * suc k ≡ suc (suc (suc (suc (4 * k)))) = omega arith in
    let more = front rest k (omega arith) in
    rw (e, more)

-- a number takes four bytes
pub four_each : (fs : List ℕ) → 4 * length (numbers_of fs) ≤ length fs
four_each [] = omega arith
four_each (a ∷ []) = omega arith
four_each (a ∷ b ∷ []) = omega arith
four_each (a ∷ b ∷ c ∷ []) = omega arith
four_each (a ∷ b ∷ c ∷ d ∷ rest) = omega (arith, four_each rest)

-- Fields as the C host lays them out: 4 bytes each, signed, low byte first (rules 11.2).
use Rattle.std.specs.Prelude.{ℕ, List, [], ◌∷◌, ◌++◌, ℤ}
use Rattle.std.specs.Int.{w32}
use Rattle.std.proofs.Common.{SFits, to_z, of_z}
use Rattle.number.specs.Word.{long, long_bytes}

-- each number has 32 bits with its sign
abbrev pub AllFit : List ℤ → Type 0
AllFit [] = Unit {0}
AllFit (z ∷ zs) = SFits w32 z × AllFit zs

-- the bytes of each, one after the other
abbrev pub each : {A : Type 0} → (A → List ℕ) → List A → List ℕ
each f [] = []
each f (x ∷ xs) = f x ++ each f xs

abbrev pub field_bytes : ℤ → List ℕ
field_bytes z = long_bytes (of_z w32 z)

abbrev pub fields_bytes : List ℤ → List ℕ
fields_bytes zs = each field_bytes zs

-- the numbers that bytes say, four bytes each
abbrev pub numbers_of : List ℕ → List ℤ
numbers_of [] = []
numbers_of (a ∷ []) = []
numbers_of (a ∷ b ∷ []) = []
numbers_of (a ∷ b ∷ c ∷ []) = []
numbers_of (a ∷ b ∷ c ∷ d ∷ rest) = to_z w32 (long a b c d) ∷ numbers_of rest

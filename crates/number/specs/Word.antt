-- Words of two bytes and of four, and the bits of a byte.
use Rattle.std.specs.Prelude.{ℕ, ◌+◌, ◌*◌, ◌/◌, ◌%◌, Bool, true, false, List, [], ◌∷◌, eqb}

-- the low byte first
abbrev pub word : ℕ → ℕ → ℕ
word low high = low + 256 * high

-- four bytes, the low one first
abbrev pub long : ℕ → ℕ → ℕ → ℕ → ℕ
long a b c d = word a b + 65536 * word c d

-- the four bytes of 32 bits, the low one first
abbrev pub long_bytes : ℕ → List ℕ
long_bytes n = (n % 256) ∷ (n / 256 % 256) ∷ (n / 65536 % 256) ∷ (n / 16777216 % 256) ∷ []

-- the two bytes of a word
abbrev pub low_byte : ℕ → ℕ
low_byte n = n % 256

abbrev pub high_byte : ℕ → ℕ
high_byte n = n / 256 % 256

-- whether the bit of this weight is set in a byte
abbrev pub bit : ℕ → ℕ → Bool
bit weight byte = eqb (byte / weight % 2) 1

-- a flag as 1 or 0
abbrev pub num : Bool → ℕ
num true = 1
num false = 0

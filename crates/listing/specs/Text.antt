-- Numbers as text, in ASCII, and text put into a lent buffer.
use Rattle.std.specs.Prelude.{◌≡◌, cond, List, [], ◌∷◌, ◌++◌, ℕ, zero, suc, ◌+◌, ◌/◌, ◌%◌, ltb, ℤ, pos, negsuc, length, take}
use Prim.Native.Char.{code}
use Prim.Native.String.{String, [] as end, ◌∷◌ as ◌then◌}
use Rattle.std.proofs.lemmas.List.Edits.{sets}
use Rattle.datagram.specs.Front.{at_front}

-- a text in ASCII
abbrev pub ascii : String → List ℕ
ascii end = []
ascii (c then s) = code c ∷ ascii s

-- the decimal digits of n, most significant first, before what follows them; fuel bounds their number
abbrev pub decimal_by : ℕ → ℕ → List ℕ → List ℕ
decimal_by zero n later = later
decimal_by (suc fuel) n later = cond (ltb n 10) ((48 + n) ∷ later) (decimal_by fuel (n / 10) ((48 + n % 10) ∷ later))

-- a number below 10^20 in decimal
unfoldable pub decimal : ℕ → List ℕ
decimal n = decimal_by 20 n []

-- with a minus sign where it is negative
abbrev pub signed_decimal : ℤ → List ℕ
signed_decimal (pos n) = decimal n
signed_decimal (negsuc n) = 45 ∷ decimal (suc n)

-- a digit below 16, upper case
abbrev pub hex_digit : ℕ → ℕ
hex_digit d = cond (ltb d 10) (48 + d) (55 + d)

abbrev pub hex_byte : ℕ → List ℕ
hex_byte b = hex_digit (b / 16) ∷ hex_digit (b % 16) ∷ []

-- the two decimal digits of a number below 100
abbrev pub pair_of : ℕ → List ℕ
pair_of n = (48 + n / 10) ∷ (48 + n % 10) ∷ []

-- each byte in hex after a space
abbrev pub spaced_hex : List ℕ → List ℕ
spaced_hex [] = []
spaced_hex (b ∷ bs) = 32 ∷ (hex_byte b ++ spaced_hex bs)

-- each number in decimal after a space
abbrev pub spaced_numbers : List ℤ → List ℕ
spaced_numbers [] = []
spaced_numbers (z ∷ zs) = 32 ∷ (signed_decimal z ++ spaced_numbers zs)

-- the text was put into the buffer from a position on, and nothing else changed; next is the position after it
pub record Put (before : List ℕ) (at : ℕ) (text : List ℕ) (after : List ℕ) (next : ℕ) : Type 0 where
  pub stored : after ≡ sets before at text
  pub moved : next ≡ at + length text

-- the digits of a number stand first among twenty bytes
pub record Kept (bytes : List ℕ) (n count : ℕ) : Type 0 where
  pub long : length bytes ≡ 20
  pub shown : take count bytes ≡ decimal n
  pub many : count ≡ length (decimal n)

-- a buffer, and how many of its first bytes are text
pub record Stored : Type 0 where
  pub buffer : List ℕ
  pub count : ℕ

-- the text at the front of a buffer of at least 512 bytes; a shorter one is left alone
abbrev pub stored_text : List ℕ → List ℕ → Stored
stored_text text buffer =
    at_front 512 text buffer (λ n after. record { buffer = after; count = n }) (λ same. record { buffer = same; count = 0 })

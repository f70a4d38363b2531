-- What a whole datagram is, and how its bytes sound as 9-bit symbols (rules 1.2 to 1.4).
use Rattle.std.specs.Prelude.{ℕ, ◌+◌, ◌%◌, Bool, ◌&&◌, List, [], ◌∷◌, leb, ltb, eqb, length, get_or}
use Rattle.std.specs.List.{list_all}

-- the total length that a second byte declares: 3 plus its low four bits
abbrev pub declared : ℕ → ℕ
declared second = 3 + second % 16

-- 3 to 18 bytes, and exactly as many as the second declares
unfoldable pub whole : List ℕ → Bool
whole bytes = leb 3 (length bytes) && (leb (length bytes) 18 && eqb (length bytes) (declared (get_or bytes 1 0)))

-- every number is below a limit
abbrev pub all_below : ℕ → List ℕ → Bool
all_below limit = list_all (λ x. ltb x limit)

-- every number is a byte
abbrev pub all_bytes : List ℕ → Bool
all_bytes = all_below 256

-- the symbols of a datagram: the command bit, 256, is set on the first alone
abbrev pub symbols : List ℕ → List ℕ
symbols [] = []
symbols (command ∷ rest) = (256 + command) ∷ rest

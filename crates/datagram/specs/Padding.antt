-- A list in an array of n: the list, and then zeros.
use Rattle.std.specs.Prelude.{ℕ, zero, suc, ◌+◌, ◌-◌, ◌*◌, Bool, List, ◌++◌, eqb, length, replicate, get_or}
use Rattle.std.specs.List.{list_all}

unfoldable pub pad_to : ℕ → List ℕ → List ℕ
pad_to n xs = xs ++ replicate (n - length xs) 0

-- every number is 0
abbrev pub all_zero : List ℕ → Bool
all_zero = list_all (λ x. eqb x 0)

-- n bytes from the k-th after a position on as one number, low byte first
abbrev pub word_from : List ℕ → ℕ → ℕ → ℕ → ℕ
word_from s at k zero = 0
word_from s at k (suc n) = get_or s (at + k) 0 + 256 * word_from s at (suc k) n

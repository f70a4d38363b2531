-- Lists of bytes number by number, so that arithmetic reads and proves them.
use mathlib.Core.Path.{◌≡◌, refl, ap₂}
use mathlib.Core.Bool.{Bool, true, false, and-eq-true_iff}
use mathlib.Core.List.{List, [], ◌∷◌}
use Prim.Native.Nat.{ℕ, zero, suc, ◌≤◌, ◌<◌}
use native.Mathlib.Omega.{arith}
use lib.Dec.{ltb}
use lib.ListN.{length, get_or, drop}
use borrow.Author.Tests.{lt-ltb, ltb-true}
use Rattle.datagram.specs.Whole.{all_bytes}
use Rattle.number.specs.Word.{num}

-- a flag is 0 or 1
pub num_small : (b : Bool) → num b ≤ 1
num_small true = omega arith
num_small false = omega arith

-- each number of a list is a byte
abbrev pub Below : List ℕ → Type 0
Below [] = Unit {0}
Below (x ∷ xs) = (x < 256) × Below xs

pub below_bytes : (s : List ℕ) → Below s → all_bytes s ≡ true
below_bytes [] h = refl
below_bytes (x ∷ xs) h = rw (lt-ltb x 256 h.0) (below_bytes xs h.1)

-- the first of a list of bytes, and the rest
pub first : (s : List ℕ) → all_bytes s ≡ true → (get_or s 0 0 < 256) × (all_bytes (drop 1 s) ≡ true)
first [] b = (omega arith, refl)
first (x ∷ s) b =
    let parts = (and-eq-true_iff (ltb x 256) (all_bytes s)).0 b in
    (ltb-true x 256 parts.0, parts.1)

-- two lists have the same numbers
abbrev pub Same : List ℕ → List ℕ → Type 0
Same [] [] = Unit {0}
Same [] (y ∷ ys) = ⊥
Same (x ∷ xs) [] = ⊥
Same (x ∷ xs) (y ∷ ys) = (x ≡ y) × Same xs ys

pub same : (xs ys : List ℕ) → Same xs ys → xs ≡ ys
same [] [] h = refl
same [] (y ∷ ys) h = absurd h
same (x ∷ xs) [] h = absurd h
same (x ∷ xs) (y ∷ ys) h = ap₂ (λ (n : ℕ) (s : List ℕ). n ∷ s) h.0 (same xs ys h.1)

-- what holds of each list of n numbers
abbrev pub Lists : ℕ → (List ℕ → Type 0) → Type 0
Lists zero Q = Q []
Lists (suc n) Q = (x : ℕ) → Lists n (λ s. Q (x ∷ s))

pub of_length : (n : ℕ) (Q : List ℕ → Type 0) → Lists n Q → (s : List ℕ) → length s ≡ n → Q s
of_length zero Q q [] e = q
of_length zero Q q (x ∷ s) e = absurd (omega arith)
of_length (suc n) Q q [] e = absurd (omega arith)
of_length (suc n) Q q (x ∷ s) e = of_length n (λ t. Q (x ∷ t)) (q x) s (omega arith)

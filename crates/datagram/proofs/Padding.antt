-- The laws of `padTo`: an element, the list before the zeros, the zeros past it, which are all 0, and a store at the first zero.
use Prim.Native.Nat.{ℕ, zero, suc, ◌-◌, ◌<◌}
use mathlib.Core.Path.{◌≡◌, refl}
use mathlib.Core.Bool.{true}
use mathlib.Core.List.{List, [], ◌∷◌, ◌++◌}
use native.Mathlib.Omega.{arith}
use lib.ListN.{length, get_or, set, take, drop, replicate, length-append}
use lib.Seq.{take-append_seam, drop-append_seam, set_at, append_snoc}
use Rattle.datagram.specs.Padding.{pad_to, all_zero}

zeros_at : (n i : ℕ) → ◌≡◌ {A = ℕ} (get_or (replicate n 0) i 0) 0
zeros_at zero i = refl
zeros_at (suc n) zero = refl
zeros_at (suc n) (suc i) = zeros_at n i

before_zeros : (n i : ℕ) (xs : List ℕ) → get_or (xs ++ replicate n 0) i 0 ≡ get_or xs i 0
before_zeros n i [] = zeros_at n i
before_zeros n zero (x ∷ xs) = refl
before_zeros n (suc i) (x ∷ xs) = before_zeros n i xs

pub zeros_pass : (n : ℕ) → all_zero (replicate n 0) ≡ true
zeros_pass zero = refl
zeros_pass (suc n) = zeros_pass n

pub get_d_pad : (n i : ℕ) (xs : List ℕ) → get_or (pad_to n xs) i 0 ≡ get_or xs i 0
unfolding pad_to
get_d_pad n i xs = before_zeros (n - length xs) i xs

pub take_pad : (n : ℕ) (xs : List ℕ) → take (length xs) (pad_to n xs) ≡ xs
unfolding pad_to
take_pad n xs = take-append_seam xs (replicate (n - length xs) 0)

pub drop_pad : (n : ℕ) (xs : List ℕ) → drop (length xs) (pad_to n xs) ≡ replicate (n - length xs) 0
unfolding pad_to
drop_pad n xs = drop-append_seam xs (replicate (n - length xs) 0)

pub set_pad : (n : ℕ) (xs : List ℕ) (i b : ℕ) → length xs ≡ i → i < n → set (pad_to n xs) i b ≡ pad_to n (xs ++ (b ∷ []))
unfolding pad_to
set_pad n xs i b e h =
    let one : n - length xs ≡ suc (n - length (xs ++ (b ∷ []))) = simp length-append (omega arith) in
    rw (one, set_at xs 0 (replicate (n - length (xs ++ (b ∷ []))) 0) b i e, append_snoc)

-- Lists of bytes in hex and of numbers in decimal: one element more, and lengths.
use mathlib.Core.Path.{◌≡◌, refl}
use mathlib.Core.List.{List, [], ◌∷◌, ◌++◌, append_assoc}
use Prim.Native.Nat.{ℕ, suc, ◌+◌, ◌*◌, ◌≤◌, ◌<◌}
use native.Mathlib.Numerals.{add-one}
use native.Mathlib.Omega.{arith}
use lib.IntN.{ℤ, pos, negsuc}
use lib.ListN.{length, take, get_or, length-append, length-take}
use lib.Seq.{take-suc}
use Rattle.listing.specs.Text.{Put, signed_decimal, hex_byte, spaced_hex, spaced_numbers}
use Rattle.listing.proofs.Decimal.{decimal_most}
use Rattle.listing.proofs.Put.{put_then}

hex_append : (xs ys : List ℕ) → spaced_hex (xs ++ ys) ≡ spaced_hex xs ++ spaced_hex ys
hex_append [] ys = refl
hex_append (x ∷ xs) ys = rw (hex_append xs ys)

pub hex_next : (i : ℕ) (xs : List ℕ) → i < length xs → spaced_hex (take (i + 1) xs) ≡ spaced_hex (take i xs) ++ (32 ∷ hex_byte (get_or xs i 0))
hex_next i xs h = rw (add-one, take-suc xs i 0) (hex_append (take i xs) (get_or xs i 0 ∷ []))

pub hex_length : (xs : List ℕ) → length (spaced_hex xs) ≡ 3 * length xs
hex_length [] = refl
hex_length (x ∷ xs) = omega (arith, hex_length xs)

pub hex_most : (i : ℕ) (xs : List ℕ) → length (spaced_hex (take i xs)) ≤ 3 * i
hex_most i xs = omega (arith, hex_length (take i xs), length-take i xs)

numbers_append : (xs ys : List ℤ) → spaced_numbers (xs ++ ys) ≡ spaced_numbers xs ++ spaced_numbers ys
numbers_append [] ys = refl
numbers_append (x ∷ xs) ys = rw (numbers_append xs ys, append_assoc (signed_decimal x))

-- more numbers behind numbers
pub numbers_then : (xs ys : List ℤ) {a b c : List ℕ} {at m n : ℕ} → Put a at (spaced_numbers xs) b m → Put b m (spaced_numbers ys) c n
    → Put a at (spaced_numbers (xs ++ ys)) c n
numbers_then xs ys p q = rw (numbers_append xs ys) (put_then p q)

signed_most : (z : ℤ) → length (signed_decimal z) ≤ 21
signed_most (pos n) = omega (arith, decimal_most n)
signed_most (negsuc n) = omega (arith, decimal_most (suc n))

pub numbers_length : (zs : List ℤ) → length (spaced_numbers zs) ≤ 22 * length zs
numbers_length [] = omega arith
numbers_length (z ∷ zs) = simp length-append (omega (arith, signed_most z, numbers_length zs))

-- how long a label and numbers may be
pub label_length : (label : List ℕ) (zs : List ℤ) → length (label ++ spaced_numbers zs) ≤ length label + 22 * length zs
label_length label zs = omega (arith, length-append label (spaced_numbers zs), numbers_length zs)

-- Text put into a buffer: piece after piece, a store, and the buffer's length.
use mathlib.Core.Path.{◌≡◌, refl, ap, ◌∙◌}
use mathlib.Core.List.{List, [], ◌∷◌, ◌++◌}
use Prim.Native.Nat.{ℕ, zero, suc, ◌+◌, ◌≤◌, ◌<◌}
use native.Mathlib.Nat.{add-zero}
use native.Mathlib.Omega.{arith}
use lib.ListN.{length, take, drop, set, length-append}
use lib.Seq.{sets, sets-eq, length-sets, set_comm, set-set}
use Rattle.listing.specs.Text.{Put, Stored}

sets_append : (l : List ℕ) (i : ℕ) (xs ys : List ℕ) → sets l i (xs ++ ys) ≡ sets (sets l i xs) (i + length xs) ys
sets_append l i [] ys = rw add-zero
sets_append l i (x ∷ xs) ys =
    let e : suc i + length xs ≡ i + suc (length xs) = omega arith in
    sets_append (set l i x) (suc i) xs ys ∙ rw e

-- one text after the other is their concatenation
pub put_then : {a b c t u : List ℕ} {at m n : ℕ} → Put a at t b m → Put b m u c n → Put a at (t ++ u) c n
put_then {a} {b} {c} {t} {u} {at} {m} {n} p q =
    record {
      stored = cc (sets_append a at t u, p.stored, p.moved, q.stored);
      moved = omega (arith, p.moved, q.moved, length-append t u);
    }

pub put_nothing : (l : List ℕ) (at : ℕ) → Put l at [] l at
put_nothing l at = record { stored = refl; moved = omega arith }

-- one store
pub put_one : (l : List ℕ) (at x : ℕ) → Put l at (x ∷ []) (set l at x) (at + 1)
put_one l at x = record { stored = refl; moved = omega arith }

pub put_length : {a t b : List ℕ} {at n : ℕ} → Put a at t b n → length b ≡ length a
put_length {a} {t} {b} {at} p = ap length p.stored ∙ length-sets a at t

-- a text at the front
pub put_stored : {a t b : List ℕ} {n : ℕ} → Put a 0 t b n → length t ≤ length a
    → ◌≡◌ {A = Stored} (record { buffer = b; count = n }) (record { buffer = t ++ drop (length t) a; count = length t })
put_stored {a} {t} {b} {n} p fits =
    let m : n ≡ length t = omega (arith, p.moved) in
    cc (p.stored, sets-eq t a 0 (omega arith))

-- a store before others
pub set_sets : (l : List ℕ) (i j x : ℕ) (xs : List ℕ) → i < j → set (sets l j xs) i x ≡ sets (set l i x) j xs
set_sets l i j x [] h = refl
set_sets l i j x (y ∷ ys) h =
    set_sets (set l j y) i (suc j) x ys (omega arith)
    ∙ ap (λ (k : List ℕ). sets k (suc j) ys) (set_comm l j i y x (λ e. omega arith))

-- what is stored over later stores of the first text is not seen
pub overlaid : (l : List ℕ) (at k : ℕ) (xs ys : List ℕ) → k ≤ length xs → length xs ≤ k + length ys
    → sets (sets l at xs) (at + k) ys ≡ sets l at (take k xs ++ ys)
overlaid l at zero [] ys h g = rw add-zero
overlaid l at (suc k) [] ys h g = absurd (omega arith)
overlaid l at zero (x ∷ xs) [] h g = absurd (omega arith)
overlaid l at zero (x ∷ xs) (y ∷ ys) h g =
    let e : at + 0 ≡ at = omega arith in
    let f : suc at + 0 ≡ suc at = omega arith in
    let over : set (sets (set l at x) (suc at) xs) at y ≡ sets (set l at y) (suc at) xs =
    set_sets (set l at x) at (suc at) y xs (omega arith) ∙ ap (λ (k : List ℕ). sets k (suc at) xs) (set-set l at x y) in
    rw (e, over) (rw f at (overlaid (set l at y) (suc at) zero xs ys (omega arith) (omega arith)))
overlaid l at (suc k) (x ∷ xs) ys h g =
    let e : suc at + k ≡ at + suc k = omega arith in
    rw e at (overlaid (set l at x) (suc at) k xs ys (omega arith) (omega arith))

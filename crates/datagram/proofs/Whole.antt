-- A whole datagram has the length that its second byte declares, and a symbol for each byte; a number of a list below a limit.
use mathlib.Core.Path.{◌≡◌, refl}
use mathlib.Core.Bool.{true, ◌&&◌, and-eq-true_iff}
use mathlib.Core.List.{List, [], ◌∷◌}
use Prim.Native.Nat.{ℕ, zero, suc, ◌<◌}
use lib.Dec.{leb, ltb, eqb}
use lib.ListN.{length, get_or}
use borrow.Author.Tests.{eqb-true, ltb-true}
use Rattle.datagram.specs.Whole.{declared, symbols, whole, all_below}

pub declares : (s : List ℕ) → whole s ≡ true → length s ≡ declared (get_or s 1 0)
unfolding whole
declares s w =
    let last = eqb (length s) (declared (get_or s 1 0)) in
    let upper = leb (length s) 18 in
    eqb-true _ _ ((and-eq-true_iff upper last).0 ((and-eq-true_iff (leb 3 (length s)) (upper && last)).0 w).1).1

pub as_many : (s : List ℕ) → length (symbols s) ≡ length s
as_many [] = refl
as_many (b ∷ bs) = refl

-- any number of such a list, the 0 past its end too
pub below_at : (limit : ℕ) (xs : List ℕ) (i : ℕ) → 0 < limit → all_below limit xs ≡ true → get_or xs i 0 < limit
below_at limit [] i h b = h
below_at limit (x ∷ xs) zero h b = ltb-true x limit ((and-eq-true_iff (ltb x limit) (all_below limit xs)).0 b).0
below_at limit (x ∷ xs) (suc i) h b = below_at limit xs i h ((and-eq-true_iff (ltb x limit) (all_below limit xs)).0 b).1

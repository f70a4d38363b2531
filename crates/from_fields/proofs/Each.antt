-- Things laid out at the front of a buffer, one after the other, each in as many bytes.
use mathlib.Core.Path.{◌≡◌, refl, sym, ap, ◌∙◌}
use mathlib.Core.List.{List, [], ◌∷◌, ◌++◌, append_assoc, append-nil}
use Prim.Native.Nat.{ℕ, suc, ◌+◌, ◌*◌, ◌≤◌, ◌<◌}
use native.Mathlib.Nat.{mul-zero, mul-suc}
use native.Mathlib.Numerals.{add-one}
use native.Mathlib.Omega.{arith}
use lib.ListN.{length, get_or, take, drop, length-append}
use lib.Seq.{take-suc, length-take-le, sets}
use Rattle.datagram.proofs.Lent.{grown}
use Rattle.from_fields.specs.Numbers.{each}

module _ {A : Type 0} (f : A → List ℕ) (k : ℕ) (sized : (x : A) → length (f x) ≡ k) where
  pub each_length : (xs : List A) → length (each f xs) ≡ k * length xs
  each_length [] = sym (mul-zero k)
  each_length (x ∷ xs) =
      let n : k * suc (length xs) ≡ k * length xs + k = mul-suc k (length xs) in
      let later = each_length xs in
      let here = sized x in
      rw length-append (omega arith)

  each_append : (xs ys : List A) → each f (xs ++ ys) ≡ each f xs ++ each f ys
  each_append [] ys = refl
  each_append (x ∷ xs) ys = ap (λ (r : List ℕ). f x ++ r) (each_append xs ys) ∙ sym (append_assoc (f x) (each f xs) (each f ys))

  -- the first i
  module _ (xs : List A) (i : ℕ) (l : List ℕ) where
    front : i ≤ length xs → length (each f (take i xs)) ≡ k * i
    front h = each_length (take i xs) ∙ ap (λ (n : ℕ). k * n) (length-take-le i xs h)

    -- one more is stored after them
    pub one_more : (d : A) → i < length xs → k * (i + 1) ≤ length l
        → sets (each f (take i xs) ++ drop (k * i) l) (k * i) (f (get_or xs i d)) ≡ each f (take (i + 1) xs) ++ drop (k * (i + 1)) l
    one_more d h room =
        let vs = f (get_or xs i d) in
        let n : k * (i + 1) ≡ k * i + k = ap (λ (m : ℕ). k * m) (add-one i) ∙ mul-suc k i in
        let m : k * i + length vs ≡ k * (i + 1) = ap (λ (j : ℕ). k * i + j) (sized (get_or xs i d)) ∙ sym n in
        let more : each f (take (i + 1) xs) ≡ each f (take i xs) ++ vs =
        rw (add-one, take-suc xs i d h) (each_append (take i xs) (get_or xs i d ∷ []) ∙ rw append-nil) in
        grown (each f (take i xs)) vs l (k * i) (front (omega arith)) (omega arith) ∙ rw (m, more)

-- Bytes that are all 0, one at a time and eight as one number.
use mathlib.Core.Path.{◌≡◌, refl, sym, ap, ◌∙◌}
use mathlib.Core.Bool.{Bool, true, false, and-eq-true_iff}
use mathlib.Core.List.{List}
use Prim.Native.Nat.{ℕ, zero, suc, ◌+◌, ◌-◌, ◌≤◌, ◌<◌}
use native.Mathlib.Nat.{add-zero}
use native.Mathlib.Omega.{arith}
use borrow.Author.Tests.{eqb-true, eqb-false}
use lib.Dec.{eqb}
use lib.ListN.{length, get_or, drop, drop_of_length-le}
use lib.Seq.{drop-cons}
use Rattle.datagram.specs.Padding.{all_zero, word_from}

module _ (s : List ℕ) where
  -- a number is 0 if its bytes are, and they are if it is
  word_zero : (at k n : ℕ) → word_from s at k n ≡ 0 → (j : ℕ) → j < n → get_or s (at + (k + j)) 0 ≡ 0
  word_zero at k zero e j h = absurd (omega arith)
  word_zero at k (suc n) e zero h = rw add-zero (omega (arith, e))
  word_zero at k (suc n) e (suc j) h =
      let moved : k + suc j ≡ suc k + j = omega arith in
      rw moved (word_zero at (suc k) n (omega (arith, e)) j (omega arith))

  zero_word : (at k n : ℕ) → ((j : ℕ) → j < n → get_or s (at + (k + j)) 0 ≡ 0) → word_from s at k n ≡ 0
  zero_word at k zero f = refl
  zero_word at k (suc n) f =
      let first : get_or s (at + k) 0 ≡ 0 = rw add-zero at (f 0 (omega arith)) in
      let rest : word_from s at (suc k) n ≡ 0 = zero_word at (suc k) n (λ j h. ap (λ (i : ℕ). get_or s (at + i) 0) (omega arith) ∙ f (suc j) (omega arith)) in
      omega (arith, first, rest)

  -- bytes that are 0 do not matter
  run : (n at : ℕ) → at + n ≤ length s → ((j : ℕ) → j < n → get_or s (at + j) 0 ≡ 0) → all_zero (drop at s) ≡ all_zero (drop (at + n) s)
  run zero at h f = rw add-zero
  run (suc n) at h f =
      let first : get_or s at 0 ≡ 0 = rw add-zero at (f 0 (omega arith)) in
      let moved : suc at + n ≡ at + suc n = omega arith in
      ap all_zero (drop-cons s at 0 (omega arith))
      ∙ rw first (run n (suc at) (omega arith) (λ j k. ap (λ (i : ℕ). get_or s i 0) (omega arith) ∙ f (suc j) (omega arith)) ∙ rw moved)

  first_zero : (at : ℕ) → at < length s → all_zero (drop at s) ≡ true → (get_or s at 0 ≡ 0) × (all_zero (drop (suc at) s) ≡ true)
  first_zero at h e =
      let parts = (and-eq-true_iff (eqb (get_or s at 0) 0) (all_zero (drop (suc at) s))).0 (sym (ap all_zero (drop-cons s at 0 h)) ∙ e) in
      (eqb-true (get_or s at 0) 0 parts.0, parts.1)

  each_zero : (n at : ℕ) → at + n ≤ length s → all_zero (drop at s) ≡ true → (j : ℕ) → j < n → get_or s (at + j) 0 ≡ 0
  each_zero zero at h e j k = absurd (omega arith)
  each_zero (suc n) at h e zero k = rw add-zero (first_zero at (omega arith) e).0
  each_zero (suc n) at h e (suc j) k =
      ap (λ (p : ℕ). get_or s p 0) (omega arith) ∙ each_zero n (suc at) (omega arith) (first_zero at (omega arith) e).1 j (omega arith)

  -- eight bytes that are 0 do not matter, and eight that are not all 0 do
  pub eight_zero : (at : ℕ) → at + 8 ≤ length s → word_from s at 0 8 ≡ 0 → all_zero (drop at s) ≡ all_zero (drop (at + 8) s)
  eight_zero at h e = run 8 at h (λ j k. ap (λ (p : ℕ). get_or s p 0) (omega arith) ∙ word_zero at 0 8 e j k)

  pub eight_not : (from at : ℕ) → from ≤ at → at + 8 ≤ length s → (word_from s at 0 8 ≡ 0 → ⊥) → all_zero (drop from s) ≡ false
  eight_not from at h l n = go (all_zero (drop from s)) refl
    where
      go : (b : Bool) → all_zero (drop from s) ≡ b → b ≡ false
      go false e = refl
      go true e =
          absurd (n (zero_word at 0 8 (λ j k. ap (λ (p : ℕ). get_or s p 0) (omega arith) ∙ each_zero (length s - from) from (omega arith) e (at - from + j) (omega arith))))

  -- the last eight decide, where those before them are 0
  pub last_eight : (from i : ℕ) → 8 ≤ length s → from ≤ length s - 8 → length s - 8 ≤ i → i ≤ length s → all_zero (drop from s) ≡ all_zero (drop i s)
      → eqb (word_from s (length s - 8) 0 8) 0 ≡ all_zero (drop from s)
  last_eight from i some low high within same = go (eqb (word_from s (length s - 8) 0 8) 0) refl
    where
      last : ℕ
      last = length s - 8

      go : (b : Bool) → eqb (word_from s last 0 8) 0 ≡ b → b ≡ all_zero (drop from s)
      go true e =
          let zeros : all_zero (drop i s) ≡ all_zero (drop (i + (length s - i)) s) =
          run (length s - i) i (omega arith) (λ j k. ap (λ (p : ℕ). get_or s p 0) (omega arith) ∙ word_zero last 0 8 (eqb-true _ 0 e) (i - last + j) (omega arith)) in
          sym (same ∙ zeros ∙ ap all_zero (drop_of_length-le s {i = i + (length s - i)} (omega arith)))
      go false e = sym (eight_not from last low (omega arith) (eqb-false _ 0 e))

-- `spelling_at` takes a number of the list, and each before the first fault, which is none of the 720, reads back.
use mathlib.Core.Path.{◌≡◌, refl, ap, ◌∙◌}
use mathlib.Core.Bool.{Bool, true, false, cond}
use mathlib.Core.List.{List, [], ◌∷◌}
use Prim.Native.Nat.{ℕ, zero, suc, ◌+◌, ◌<◌}
use native.Mathlib.Omega.{arith}
use lib.ListN.{get_or}
use Rattle.angle.specs.Spellings.{reads_back, first_fault}
use Rattle.angle.proofs.spellings.spelling_at.Goals as goal

-- number n of a list that is counted from k on stands at the index i
before_fault : (k : ℕ) (es : List ℕ) (n i : ℕ) → n ≡ k + i → n < first_fault k es → reads_back n (get_or es i 0) ≡ true
unfolding first_fault
before_fault k [] n i e h = absurd (omega (arith, e, h))
before_fault k (x ∷ xs) n i e h = go (reads_back k x) refl i e h (before_fault (suc k) xs n)
  where
    go : (b : Bool) → reads_back k x ≡ b → (i : ℕ) → n ≡ k + i → n < cond b (first_fault (suc k) xs) k
        → ((j : ℕ) → n ≡ suc k + j → n < first_fault (suc k) xs → reads_back n (get_or xs j 0) ≡ true)
        → reads_back n (get_or (x ∷ xs) i 0) ≡ true
    go true q zero e h later = ap (λ (m : ℕ). reads_back m x) (omega (arith, e)) ∙ q
    go true q (suc i) e h later = later i (omega (arith, e)) h
    go false q i e h later = absurd (omega (arith, e, h))

pub returns : goal.returns
returns c =
    let list = c.spelling_list.result.now in
    let index = c.args.index in
    ap (reads_back index) c.number_at.ensures
    ∙ before_fault 0 list index index (omega arith) (omega (arith, c.spelling_list.ensures, c.requires))

-- Soundness by the list of held bytes: a sound state is the one that holds its bytes, and they are fewer than declared.
use Prim.Native.Nat.{ℕ, ◌-◌, ◌≤◌, ◌<◌}
use mathlib.Core.Path.{◌≡◌, refl, sym, ap, ◌∙◌}
use mathlib.Core.Bool.{Bool, true, false, ◌&&◌, and-eq-true_iff, cond, and-true, and-false}
use mathlib.Core.List.{List, [], ◌∷◌, ◌++◌}
use native.Mathlib.Omega.{arith}
use borrow.Author.Tests.{ltb-true, ltb-false, leb-false, eqb-true, lt-ltb, le-leb}
use lib.Dec.{leb, ltb, eqb}
use lib.ListN.{length, get_or, drop, replicate, take-append-drop, length-drop}
use lib.Seq.{length-take-le}
use Rattle.datagram.specs.Whole.{declared}
use Rattle.datagram.specs.Padding.{pad_to, all_zero}
use Rattle.datagram.proofs.Padding.{get_d_pad, take_pad, drop_pad, zeros_pass}
use Rattle.listener.specs.declared.Listener.{Listener}
use Rattle.listener.specs.State.{sound, empty, held_bytes, holding, empty_listener}

module _ (held second : ℕ) (zeros : Bool) where
  one_test : (short two : Bool) → ltb held (declared second) ≡ short → leb 2 held ≡ two → leb held 17 && (zeros && cond two short true) ≡ short && zeros
  one_test true true e f = rw (le-leb held 17 (omega (arith, ltb-true held (declared second) e)), and-true)
  one_test true false e f = rw (le-leb held 17 (omega (arith, ltb-true held (declared second) e)), and-true)
  one_test false true e f = simp and-false
  one_test false false e f = absurd (omega (arith, ltb-false held (declared second) e, leb-false 2 held f))

-- the declared length is 3 to 18: fewer held than declared are at most 17, and with fewer than two held they are fewer
pub sound_is : (l : Listener) → sound l ≡ ltb l.held (declared (get_or l.bytes 1 0)) && all_zero (drop l.held l.bytes)
unfolding sound
sound_is l = one_test l.held (get_or l.bytes 1 0) (all_zero (drop l.held l.bytes)) _ _ refl refl

are_zeros : (xs : List ℕ) → all_zero xs ≡ true → xs ≡ replicate (length xs) 0
are_zeros [] e = refl
are_zeros (x ∷ xs) e =
    let parts = (and-eq-true_iff (eqb x 0) (all_zero xs)).0 e in
    rw (eqb-true x 0 parts.0) (ap (λ (r : List ℕ). 0 ∷ r) (are_zeros xs parts.1))

pub held_holding : (xs : List ℕ) → length xs ≤ 17 → held_bytes (holding xs) ≡ xs
held_holding xs h = take_pad 17 xs

pub sound_holding : (xs : List ℕ) → length xs ≤ 17 → length xs < declared (get_or xs 1 0) → sound (holding xs) ≡ true
sound_holding xs h short = sound_is (holding xs) ∙ rw (get_d_pad, lt-ltb _ _ short, drop_pad, zeros_pass)

-- what soundness says of the held bytes
pub record Held (l : Listener) : Type 0 where
  pub count : length (held_bytes l) ≡ l.held
  pub short : l.held < declared (get_or l.bytes 1 0)
  pub array : l.bytes ≡ pad_to 17 (held_bytes l)

pub held_by : (l : Listener) → length l.bytes ≡ 17 → sound l ≡ true → Held l
unfolding pad_to
held_by l long s =
    let rest = drop l.held l.bytes in
    let parts = (and-eq-true_iff (ltb l.held (declared (get_or l.bytes 1 0))) (all_zero rest)).0 (sym (sound_is l) ∙ s) in
    let short : l.held < declared (get_or l.bytes 1 0) = ltb-true l.held (declared (get_or l.bytes 1 0)) parts.0 in
    let count : length (held_bytes l) ≡ l.held = length-take-le l.held l.bytes (omega arith) in
    let left : length rest ≡ 17 - length (held_bytes l) = simp length-drop (cc) in
    record {
      count = count;
      short = short;
      array =
          sym (take-append-drop l.held l.bytes)
          ∙ ap (λ (r : List ℕ). held_bytes l ++ r) (are_zeros rest parts.1 ∙ ap (λ (n : ℕ). replicate n 0) left);
    }

pub holding_held : (l : Listener) → Held l → holding (held_bytes l) ≡ l
holding_held l k = rw (k.count, ← k.array)

pub empty_is : (l : Listener) → length l.bytes ≡ 17 → empty l ≡ true → l ≡ empty_listener
unfolding empty
empty_is l long e =
    let parts = (and-eq-true_iff (sound l) (eqb l.held 0)).0 e in
    let none : l.held ≡ 0 = eqb-true l.held 0 parts.1 in
    sym (holding_held l (held_by l long parts.0)) ∙ rw none

-- A buffer lent from a position on: the whole of the rest is lent, so nothing stands behind it; a copy made into it; numbers
-- stored at its front, said of the whole buffer; and numbers stored after what stands at the front already.
use Rattle.std.specs.Prelude.{Result, Ok, Err}
use mathlib.Core.Path.{◌≡◌, refl, sym, ap, ◌∙◌}
use mathlib.Core.Bool.{Bool, true, false, cond}
use mathlib.Core.List.{List, [], ◌++◌, append-nil, append_assoc}
use Prim.Native.Nat.{ℕ, ◌+◌, ◌-◌, ◌≤◌, ◌<◌}
use native.Mathlib.Omega.{arith}
use borrow.Author.Tests.{le-leb, lt-leb}
use lib.Dec.{leb}
use lib.ListN.{length, take, drop, length-append, length-drop, drop_of_length-le, take-append-drop}
use lib.Seq.{paste, sets, sets-eq, take_all, take_at, drop-drop, drop-append-add}
use Rattle.datagram.specs.Refusals.{no_room}
use Rattle.datagram.specs.Position.{Outcome, outcome, stored_at, stored_front}
use Rattle.datagram.specs.declared.Refusal.{Refusal}

module _ (d : List ℕ) (at : ℕ) where
  pub whole : take (length d - at) (drop at d) ≡ drop at d
  whole = take_all (length d - at) (drop at d) (omega (arith, length-drop at d))

  pub none_behind : drop (length d - at) (drop at d) ≡ []
  none_behind = drop_of_length-le (drop at d) {i = length d - at} (omega (arith, length-drop at d))

pub copied : (d s part : List ℕ) (at : ℕ) → at + length s ≤ length d
    → part ≡ take (length s) s ++ drop (length s) (take (length d - at) (drop at d))
    → take at d ++ (part ++ drop (length d - at) (drop at d)) ≡ paste d at s (length s)
copied d s part at h e = rw (none_behind d at, append-nil, e, whole d at, drop-drop, append_assoc)

-- n numbers at the front of a part, where it has room and where not
module _ (n : ℕ) (xs part : List ℕ) where
  pub stored : length xs ≡ n → n ≤ length part → outcome (Ok n) (xs ++ drop n part) ≡ stored_front n xs part
  stored many h = rw (le-leb n (length part) h, many)

  pub no_room_lem : length part < n → outcome (Err no_room) part ≡ stored_front n xs part
  no_room_lem h = rw (lt-leb n (length part) h)

-- what was stored in the part from the position on, said of the whole buffer
module _ (n : ℕ) (xs buffer : List ℕ) (at : ℕ) (many : length xs ≡ n) where
  stays : (t : Bool) → leb n (length (drop at buffer)) ≡ t
      → outcome (stored_front n xs (drop at buffer)).answer (take at buffer ++ (stored_front n xs (drop at buffer)).buffer)
      ≡ cond t (outcome (Ok n) (take at buffer ++ (xs ++ drop (at + n) buffer))) (outcome (Err no_room) buffer)
  stays true e = rw (e, many) (ap (λ (rest : List ℕ). outcome (Ok n) (take at buffer ++ (xs ++ rest))) (drop-drop n at buffer))
  stays false e = rw e (ap (outcome (Err no_room)) (take-append-drop at buffer))

  pub home : (r : Result ℕ Refusal) (part : List ℕ) → at ≤ length buffer → outcome r part ≡ stored_front n xs (take (length buffer - at) (drop at buffer))
      → outcome r (take at buffer ++ (part ++ drop (length buffer - at) (drop at buffer))) ≡ stored_at n xs buffer at
  home r part h e =
      let f : outcome r part ≡ stored_front n xs (drop at buffer) = e ∙ ap (stored_front n xs) (whole buffer at) in
      rw (none_behind buffer at, append-nil, le-leb at (length buffer) h, ← length-drop at buffer)
      (ap (λ (o : Outcome). outcome o.answer (take at buffer ++ o.buffer)) f ∙ stays (leb n (length (drop at buffer))) refl)

-- stores after what stands at the front already
pub grown : (done vs l : List ℕ) (at : ℕ) → length done ≡ at → at + length vs ≤ length l
    → sets (done ++ drop at l) at vs ≡ done ++ vs ++ drop (at + length vs) l
grown done vs l at e h =
    let whole : length (done ++ drop at l) ≡ length l = simp (length-append, length-drop) (omega arith) in
    let rest : drop (at + length vs) (done ++ drop at l) ≡ drop (at + length vs) l =
    ap (λ (n : ℕ). drop (n + length vs) (done ++ drop at l)) (sym e) ∙ drop-append-add done (drop at l) (length vs) ∙ drop-drop (length vs) at l in
    sets-eq vs (done ++ drop at l) at (omega arith) ∙ rw (take_at done (drop at l) at e, rest)

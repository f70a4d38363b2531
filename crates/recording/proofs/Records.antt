-- The end and the place of a refusal; a whole record is read the same with more bytes behind it, and with the bytes before it taken away, but for a refusal's place.
use Rattle.std.specs.Prelude.{Result, Option, Ok, Err, None, Some}
use Prim.Native.Nat.{ℕ, ◌+◌, ◌-◌, ◌≤◌, ◌<◌}
use native.Mathlib.Nat.{add_assoc}
use native.Mathlib.Omega.{arith}
use mathlib.Core.Path.{◌≡◌, refl, sym, ap, ◌∙◌}
use mathlib.Core.Bool.{Bool, true, false, cond, ◌&&◌}
use mathlib.Core.List.{List, ◌++◌}
use borrow.Author.Tests.{leb-true, leb-false, eqb-true, eqb-false, le-leb, lt-leb, eq-eqb, ne_eqb}
use lib.Dec.{leb, eqb}
use lib.ListN.{length, get_or, drop, length-append, length-drop, get_or-append}
use lib.Seq.{get_or-drop}
use Rattle.datagram.specs.declared.Refusal.{Refusal}
use Rattle.datagram.specs.Refusals.{symbol_above_at, no_mark, cut_short}
use Rattle.recording.specs.declared.Record.{Record}
use Rattle.recording.specs.Record.{record_of, judged_record, byte_of, time_at, symbol_at, heard}

pub whole_record : (s : List ℕ) (at : ℕ) → at + 8 ≤ length s
    → record_of s at ≡ judged_record at (get_or s at 0) (byte_of s at 1) (time_at s at) (symbol_at s at)
unfolding record_of
whole_record s at h =
    rw (le-leb at (length s) (omega arith), ne_eqb (length s) at (λ e. omega arith), le-leb 8 (length s - at) (omega arith))

not_the_end : (at time symbol : ℕ) (marked low : Bool)
    → cond marked (cond low (heard time symbol) (Err (symbol_above_at at))) (Err (no_mark at)) ≡ (Ok None) → ◌≡◌ {A = ℕ} 0 1
not_the_end at time symbol true true e = cc
not_the_end at time symbol true false e = cc
not_the_end at time symbol false low e = cc

-- where a whole record is left, there is no end
pub no_end : (s : List ℕ) (at : ℕ) → at + 8 ≤ length s → record_of s at ≡ (Ok None) → ⊥
no_end s at h e =
    let marked = eqb (get_or s at 0) 0x53 && eqb (byte_of s at 1) 0x54 in
    let low = leb (symbol_at s at) 511 in
    let z = not_the_end at (time_at s at) (symbol_at s at) marked low (rw (whole_record s at h) at e) in
    omega arith

-- the end stands where the bytes end
pub at_end : (s : List ℕ) (at : ℕ) → record_of s at ≡ (Ok None) → length s ≡ at
unfolding record_of
at_end s at e = go (leb at (length s)) (eqb (length s) at) (leb 8 (length s - at)) refl refl refl
  where
    go : (t u v : Bool) → leb at (length s) ≡ t → eqb (length s) at ≡ u → leb 8 (length s - at) ≡ v → length s ≡ at
    go true true v a b c = eqb-true (length s) at b
    go true false true a b c = absurd (no_end s at (let l = leb-true 8 (length s - at) c in omega arith) e)
    go true false false a b c = let z : ◌≡◌ {A = Result (Option Record) Refusal} (Err (cut_short at)) (Ok None) = rw (a, b, c) at e in let n : ◌≡◌ {A = ℕ} 0 1 = cc in absurd (omega arith)
    go false u v a b c = let z : ◌≡◌ {A = Result (Option Record) Refusal} (Err (cut_short at)) (Ok None) = rw a at e in let n : ◌≡◌ {A = ℕ} 0 1 = cc in absurd (omega arith)

pub with_more : (xs ys : List ℕ) (at : ℕ) → at + 8 ≤ length xs → record_of (xs ++ ys) at ≡ record_of xs at
with_more xs ys at h =
    let byte : (i : ℕ) → i < 8 → byte_of (xs ++ ys) at i ≡ byte_of xs at i = λ i l. get_or-append xs ys 0 (at + i) (omega arith) in
    rw (
      whole_record xs at h,
      whole_record (xs ++ ys) at (rw length-append (omega arith)),
      get_or-append xs ys 0 at (omega arith),
      byte 1 (omega arith),
      byte 2 (omega arith),
      byte 3 (omega arith),
      byte 4 (omega arith),
      byte 5 (omega arith),
      byte 6 (omega arith),
      byte 7 (omega arith),
    )

-- a record whose place is counted from so many bytes earlier
abbrev pub record_from : ℕ → Result (Option Record) Refusal → Result (Option Record) Refusal
record_from base (Ok (Some r)) = Ok (Some r)
record_from base (Ok None) = Ok None
record_from base (Err r) = Err (record { number = r.number; place = base + r.place })

either : (base : ℕ) (b : Bool) (r q : Result (Option Record) Refusal) → record_from base (cond b r q) ≡ cond b (record_from base r) (record_from base q)
either base true r q = refl
either base false r q = refl

-- the tests of an offset, with the bytes before it and without them
module _ (base : ℕ) (s : List ℕ) (at : ℕ) (h : base ≤ length s) where
  past : (b : Bool) → leb (base + at) (length s) ≡ b → leb at (length s - base) ≡ b
  past true e = let l = leb-true (base + at) (length s) e in le-leb at (length s - base) (omega arith)
  past false e = let l = leb-false (base + at) (length s) e in lt-leb at (length s - base) (omega arith)

  all : (b : Bool) → eqb (length s) (base + at) ≡ b → eqb (length s - base) at ≡ b
  all true e = let l = eqb-true (length s) (base + at) e in eq-eqb (length s - base) at (omega arith)
  all false e = ne_eqb (length s - base) at (λ l. eqb-false (length s) (base + at) e (omega arith))

  pub without : record_of s (base + at) ≡ record_from base (record_of (drop base s) at)
  unfolding record_of
  without =
      let left : length s - base - at ≡ length s - (base + at) = omega arith in
      simp (length-drop, past _ refl, all _ refl, left, get_or-drop, either, add_assoc)

-- the place of a refusal, or this one where there is none
abbrev place_or : ℕ → Result (Option Record) Refusal → ℕ
place_or at (Ok (Some r)) = at
place_or at (Ok None) = at
place_or at (Err r) = r.place

both : (at : ℕ) (b : Bool) (r q : Result (Option Record) Refusal) → place_or at r ≡ at → place_or at q ≡ at → place_or at (cond b r q) ≡ at
both at true r q e f = e
both at false r q e f = f

-- a refusal's place is the offset
pub refused_at : (s : List ℕ) (at : ℕ) (r : Refusal) → record_of s at ≡ Err r → r.place ≡ at
unfolding record_of
refused_at s at r e = sym (ap (place_or at) e) ∙ search both

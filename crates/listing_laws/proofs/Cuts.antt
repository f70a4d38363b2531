-- Where a recording is cut in two, its walk is what a pass over the first part gives, and then the walk of what is left of that
-- part with the second part, with offsets counted from there.
use Rattle.std.specs.Prelude.{Result, Option, Ok, Err, Some, None}
use Prim.Native.Nat.{ℕ, zero, suc, ◌+◌, ◌-◌, ◌*◌, ◌≤◌}
use native.Mathlib.Nat.{add_assoc, add-zero, suc-add}
use native.Mathlib.Omega.{arith}
use mathlib.Core.Path.{◌≡◌, refl, ap}
use mathlib.Core.Bool.{Bool, true, false, cond}
use mathlib.Core.List.{List, [], ◌++◌}
use lib.Dec.{leb}
use lib.ListN.{length, drop, length-append, length-drop}
use lib.Seq.{drop-append-le}
use Rattle.datagram.specs.declared.Refusal.{Refusal}
use Rattle.listener.specs.declared.Heard.{Heard}
use Rattle.listener.specs.Step.{hear_of}
use Rattle.recording.specs.declared.Record.{Record}
use Rattle.recording.specs.Record.{record_of}
use Rattle.recording.proofs.Records.{with_more, record_from, without}
use Rattle.progress.specs.declared.Progress.{Progress}
use Rattle.progress.specs.Progress.{advanced}
use Rattle.framing.specs.Walk.{Walk, walk, walk_record, behind, entry_of, line_room, walk_from, walk_all, records_in}
use Rattle.framing.proofs.Reach.{reached}
use Rattle.listing.specs.Line.{line_of}
use Rattle.listing_laws.proofs.Stretch.{here, Broken, one_more, taken, goes_on, has_stopped}

-- a walk whose offsets are counted from so many bytes earlier
abbrev pub stop_from : ℕ → Option Refusal → Option Refusal
stop_from base None = None
stop_from base (Some r) = Some (record { number = r.number; place = base + r.place })

abbrev pub from_earlier : ℕ → Walk → Walk
from_earlier base w = walk w.text w.progress (base + w.reached) (stop_from base w.stop)

with_room : {s : List ℕ} {n at : ℕ} {p : Progress} {w : Walk} (b : Bool) → Broken s n at p w
    → Broken s n at p (cond b w (walk [] p at None))
with_room true t = t
with_room false t = (_, here)

-- a walk of the first records that minds the room for a line breaks off the walk of more
first : (m k : ℕ) (s : List ℕ) (at : ℕ) (p : Progress) (room : ℕ) → Broken s (m + k) at p (walk_from line_of m s at p room)
unfolding walk_from
first zero k s at p room = (_, here)
first (suc m) k s at p room =
    rw suc-add
    (with_room (leb line_room room)
    (one_more (λ time h. walk_from line_of m s (at + 8) (advanced p h) (room - length (entry_of line_of time h))) (record_of s at) refl
    (λ time h. first m k s (at + 8) (advanced p h) (room - length (entry_of line_of time h)))))

-- the whole records of the first part are walked as in the whole
first_part : (m : ℕ) (xs ys : List ℕ) (at : ℕ) (p : Progress) (room : ℕ) → at + 8 * m ≤ length xs
    → walk_from line_of m (xs ++ ys) at p room ≡ walk_from line_of m xs at p room
unfolding walk_from
first_part zero xs ys at p room l = refl
first_part (suc m) xs ys at p room l =
    let same : (time : ℕ) (h : Heard)
    → walk_from line_of m (xs ++ ys) (at + 8) (advanced p h) (room - length (entry_of line_of time h))
    ≡ walk_from line_of m xs (at + 8) (advanced p h) (room - length (entry_of line_of time h))
    = λ time h. first_part m xs ys (at + 8) (advanced p h) (room - length (entry_of line_of time h)) (omega arith) in
    rw (with_more xs ys at (omega arith)) (simp same)

record_shifted : (base at : ℕ) (p : Progress) (rest later : ℕ → Heard → Walk) (r : Result (Option Record) Refusal)
    → ((time : ℕ) (h : Heard) → rest time h ≡ from_earlier base (later time h))
    → walk_record (record_from base r) p (base + at) (λ time h. behind (entry_of line_of time h) (rest time h))
    ≡ from_earlier base (walk_record r p at (λ time h. behind (entry_of line_of time h) (later time h)))
record_shifted base at p rest later (Ok (Some r)) e = rw (e r.time (hear_of p.listener r.symbol))
record_shifted base at p rest later (Ok None) e = refl
record_shifted base at p rest later (Err r) e = refl

shifted : (k base : ℕ) (s : List ℕ) (at : ℕ) (p : Progress) → base ≤ length s
    → walk_all line_of k s (base + at) p ≡ from_earlier base (walk_all line_of k (drop base s) at p)
unfolding walk_all
shifted zero base s at p l = refl
shifted (suc k) base s at p l =
    rw (without base s at l, add_assoc base at 8)
    (record_shifted base at p (λ time h. walk_all line_of k s (base + (at + 8)) (advanced p h))
    (λ time h. walk_all line_of k (drop base s) (at + 8) (advanced p h)) (record_of (drop base s) at)
    (λ time h. shifted k base s (at + 8) (advanced p h) l))

-- the walk from an offset on is that of the bytes from there on
from_there : (k base : ℕ) (s : List ℕ) (p : Progress) → base ≤ length s
    → walk_all line_of k s base p ≡ from_earlier base (walk_all line_of k (drop base s) 0 p)
from_there k base s p l = rw add-zero at (shifted k base s 0 p l)

-- a pass over the first part
abbrev first_of : List ℕ → Progress → ℕ → Walk
first_of xs p room = walk_from line_of (records_in xs) xs 0 p room

first_of_all : (xs ys : List ℕ) (p : Progress) (room : ℕ) → Broken (xs ++ ys) (records_in (xs ++ ys)) 0 p (first_of xs p room)
first_of_all xs ys p room =
    let more = records_in (xs ++ ys) - records_in xs in
    let e : records_in (xs ++ ys) ≡ records_in xs + more = rw length-append (omega arith) in
    rw (e, ← first_part (records_in xs) xs ys 0 p room (omega arith)) (first (records_in xs) more (xs ++ ys) 0 p room)

pub then_the_rest : (xs ys : List ℕ) (p : Progress) (room : ℕ) → (first_of xs p room).stop ≡ None
    → walk_all line_of (records_in (xs ++ ys)) (xs ++ ys) 0 p
    ≡ behind (first_of xs p room).text
    (from_earlier (first_of xs p room).reached
    (walk_all line_of (records_in (drop (first_of xs p room).reached xs ++ ys)) (drop (first_of xs p room).reached xs ++ ys) 0 (first_of xs p room).progress))
then_the_rest xs ys p room h =
    let at = (first_of xs p room).reached in
    let (left, t) = first_of_all xs ys p room in
    let b = taken t in
    let within : at ≤ length xs = omega (arith, (reached line_of (records_in xs) xs 0 p room).within) in
    let counts : left ≡ records_in (drop at xs ++ ys) = simp (length-append, length-drop) (omega (arith, length-append xs ys)) in
    rw (goes_on t h, counts, ← drop-append-le at xs ys within)
    (ap (behind (first_of xs p room).text)
    (from_there (records_in (drop at (xs ++ ys))) at (xs ++ ys) (first_of xs p room).progress (rw length-append (omega arith))))

pub already_stopped : (xs ys : List ℕ) (p : Progress) (room : ℕ) (r : Refusal) → (first_of xs p room).stop ≡ Some r
    → walk_all line_of (records_in (xs ++ ys)) (xs ++ ys) 0 p ≡ first_of xs p room
already_stopped xs ys p room r h = has_stopped r (first_of_all xs ys p room).1 h

-- A walk of records that is broken off somewhere: the walk of them all goes on from there, or has stopped at the same refusal.
use Rattle.std.specs.Prelude.{Result, Option, Ok, Err, Some, None}
use Prim.Native.Nat.{ℕ, suc, ◌+◌, ◌*◌, ◌≤◌}
use native.Mathlib.Omega.{arith}
use mathlib.Core.Path.{◌≡◌, refl}
use mathlib.Core.List.{List, [], append_assoc}
use Rattle.datagram.specs.declared.Refusal.{Refusal}
use Rattle.listener.specs.declared.Heard.{Heard}
use Rattle.listener.specs.Step.{hear_of}
use Rattle.recording.specs.declared.Record.{Record}
use Rattle.recording.specs.Record.{record_of, heard}
use Rattle.progress.specs.declared.Progress.{Progress}
use Rattle.progress.specs.Progress.{advanced}
use Rattle.listing.specs.Line.{line_of}
use Rattle.framing.specs.Walk.{Walk, walk, behind, entry_of, walk_record, walk_all}

-- of so many records from an offset on, a walk that leaves so many
pub data Stretch (s : List ℕ) : ℕ → ℕ → Progress → ℕ → Walk → Type 0 where
  here : {n at : ℕ} {p : Progress} → Stretch s n at p n (walk [] p at None)
  further : {n at left : ℕ} {p : Progress} {w : Walk} (time symbol : ℕ) → record_of s at ≡ heard time symbol
      → Stretch s n (at + 8) (advanced p (hear_of p.listener symbol)) left w
      → Stretch s (suc n) at p left (behind (entry_of line_of time (hear_of p.listener symbol)) w)
  refused : {n at : ℕ} {p : Progress} (r : Refusal) → record_of s at ≡ Err r
      → Stretch s (suc n) at p (suc n) (walk [] p at (Some r))

-- a walk that leaves some of so many records
abbrev pub Broken : List ℕ → ℕ → ℕ → Progress → Walk → Type 0
Broken s n at p w = (left : ℕ) × Stretch s n at p left w

-- one record, and then a walk of the others that is broken off
pub one_more : {s : List ℕ} {n at : ℕ} {p : Progress} (rest : ℕ → Heard → Walk) (r : Result (Option Record) Refusal) → record_of s at ≡ r
    → ((time : ℕ) (h : Heard) → Broken s n (at + 8) (advanced p h) (rest time h))
    → Broken s (suc n) at p (walk_record r p at (λ time h. behind (entry_of line_of time h) (rest time h)))
one_more rest (Ok (Some r)) e b =
    let t = b r.time (hear_of _ r.symbol) in
    (t.0, further r.time r.symbol e t.1)
one_more rest (Ok None) e b = (_, here)
one_more rest (Err r) e b = (_, refused r e)

-- each record taken is eight bytes
pub taken : {s : List ℕ} {n at left : ℕ} {p : Progress} {w : Walk} → Stretch s n at p left w
    → (w.reached + 8 * left ≡ at + 8 * n) × (left ≤ n)
taken here = omega arith
taken (further time symbol e t) = let b = taken t in omega arith
taken (refused r e) = omega arith

-- where it did not stop, the walk of them all is what it gave and then the walk of those left
pub goes_on : {s : List ℕ} {n at left : ℕ} {p : Progress} {w : Walk} → Stretch s n at p left w → w.stop ≡ None
    → walk_all line_of n s at p ≡ behind w.text (walk_all line_of left s w.reached w.progress)
unfolding walk_all
goes_on here h = refl
goes_on (further time symbol e t) h = rw (e, goes_on t h, append_assoc)
goes_on (refused r e) h = cc

-- where it stopped, so does the walk of them all
pub has_stopped : {s : List ℕ} {n at left : ℕ} {p : Progress} {w : Walk} (r : Refusal) → Stretch s n at p left w → w.stop ≡ Some r
    → walk_all line_of n s at p ≡ w
unfolding walk_all
has_stopped q here h = cc
has_stopped q (further time symbol e t) h = rw (e, has_stopped q t h)
has_stopped q (refused r e) h = rw e

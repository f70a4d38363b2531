-- How far a walk comes: never past its records; over one at least where there is room for a line; to the refused record.
use Rattle.std.specs.Prelude.{Result, Option, Ok, Err, Some, None}
use mathlib.Core.Path.{◌≡◌, refl, ◌∙◌}
use mathlib.Core.Bool.{Bool, true, false, cond}
use mathlib.Core.List.{List, []}
use Prim.Native.Nat.{ℕ, zero, suc, ◌+◌, ◌-◌, ◌*◌, ◌≤◌}
use native.Mathlib.Omega.{arith}
use borrow.Author.Tests.{le-leb}
use lib.Dec.{leb}
use lib.ListN.{length}
use Rattle.datagram.specs.declared.Refusal.{Refusal}
use Rattle.listener.specs.declared.Heard.{Heard}
use Rattle.listener.specs.Step.{hear_of}
use Rattle.recording.specs.declared.Record.{Record}
use Rattle.recording.specs.Record.{record_of}
use Rattle.recording.proofs.Records.{no_end, refused_at}
use Rattle.progress.specs.declared.Progress.{Progress}
use Rattle.progress.specs.Progress.{advanced}
use Rattle.framing.specs.Walk.{Line, Walk, walk, behind, entry_of, line_room, walk_record, walk_from}

-- between the offset and the end of the records, and a refusal's place is where it ends
pub record Reached (at n : ℕ) (w : Walk) : Type 0 where
  pub from : at ≤ w.reached
  pub within : w.reached ≤ at + 8 * n
  pub there : (r : Refusal) → w.stop ≡ Some r → r.place ≡ w.reached

nowhere : (at n : ℕ) (p : Progress) → Reached at n (walk [] p at None)
nowhere at n p = record { from = omega arith; within = omega arith; there = λ r e. let z : ◌≡◌ {A = ℕ} 0 1 = cc in absurd (omega arith) }

one_record : (line : Line) (s : List ℕ) (at n : ℕ) (p : Progress) (rest : ℕ → Heard → Walk) (r : Result (Option Record) Refusal) → record_of s at ≡ r
    → ((time : ℕ) (h : Heard) → Reached (at + 8) n (rest time h))
    → Reached at (suc n) (walk_record r p at (λ time h. behind (entry_of line time h) (rest time h)))
one_record line s at n p rest (Ok (Some x)) e later =
    let r = later x.time (hear_of p.listener x.symbol) in
    record { from = omega (arith, r.from); within = omega (arith, r.within); there = r.there }
one_record line s at n p rest (Ok None) e later = nowhere at (suc n) p
one_record line s at n p rest (Err q) e later =
    record {
      from = omega arith;
      within = omega arith;
      there = λ r h. let same : q ≡ r = cc in refused_at s at r (e ∙ rw same);
    }

with_room : {at n : ℕ} (p : Progress) {w : Walk} (b : Bool) → Reached at n w → Reached at n (cond b w (walk [] p at None))
with_room p true r = r
with_room {at} {n} p false r = nowhere at n p

pub reached : (line : Line) (n : ℕ) (s : List ℕ) (at : ℕ) (p : Progress) (room : ℕ) → Reached at n (walk_from line n s at p room)
unfolding walk_from
reached line zero s at p room = nowhere at zero p
reached line (suc n) s at p room =
    with_room p (leb line_room room)
    (one_record line s at n p (λ time h. walk_from line n s (at + 8) (advanced p h) (room - length (entry_of line time h))) (record_of s at) refl
    (λ time h. reached line n s (at + 8) (advanced p h) (room - length (entry_of line time h))))

-- one record, where the walk goes on behind it
past_record : (line : Line) (s : List ℕ) (at : ℕ) (p : Progress) (rest : ℕ → Heard → Walk) (r : Result (Option Record) Refusal) → record_of s at ≡ r → at + 8 ≤ length s
    → ((time : ℕ) (h : Heard) → at + 8 ≤ (rest time h).reached)
    → (walk_record r p at (λ time h. behind (entry_of line time h) (rest time h))).stop ≡ None
    → at + 8 ≤ (walk_record r p at (λ time h. behind (entry_of line time h) (rest time h))).reached
past_record line s at p rest (Ok (Some r)) e h later running = later r.time (hear_of p.listener r.symbol)
past_record line s at p rest (Ok None) e h later running = absurd (no_end s at h e)
past_record line s at p rest (Err q) e h later running = let z : ◌≡◌ {A = ℕ} 0 1 = cc in absurd (omega arith)

-- where there is a whole record and room for a line, the walk stops or comes over it
pub moves : (line : Line) (n : ℕ) (s : List ℕ) (at : ℕ) (p : Progress) (room : ℕ) → line_room ≤ room → at + 8 ≤ length s
    → (walk_from line (suc n) s at p room).stop ≡ None → at + 8 ≤ (walk_from line (suc n) s at p room).reached
unfolding walk_from
moves line n s at p room roomy h running =
    rw (le-leb line_room room roomy)
    (past_record line s at p (λ time h. walk_from line n s (at + 8) (advanced p h) (room - length (entry_of line time h))) (record_of s at) refl h
    (λ time g. (reached line n s (at + 8) (advanced p g) (room - length (entry_of line time g))).from) (rw (le-leb line_room room roomy) at running))

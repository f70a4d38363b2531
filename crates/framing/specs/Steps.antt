-- What is taken at a time: records that an empty listener takes at once, or one record.
use Rattle.std.specs.Prelude.{ℕ, ◌+◌, ◌-◌, ◌*◌, ◌≤◌, ◌<◌, ◌≡◌, true, false, cond, List, [], eqb, length, take, Option, Some, None, Result, Ok, Err}
use Rattle.datagram.specs.declared.Refusal.{Refusal}
use Rattle.datagram.specs.Whole.{whole}
use Rattle.listener.specs.State.{empty_listener}
use Rattle.progress.specs.declared.Progress.{Progress}
use Rattle.progress.specs.Progress.{tallied}
use Rattle.framing.specs.declared.Gathered.{Gathered}
use Rattle.framing.specs.declared.Gathered.TheVariants.{Datagram, Cancelled, Stray}
use Rattle.framing.specs.declared.HeardRecord.{HeardRecord}
use Rattle.framing.specs.Walk.{Line, walk, behind, walk_from, records_from, line_room}

-- the line of the bytes that were handed out, if any were
abbrev pub entry : Line → ℕ → List ℕ → List ℕ
entry line time bytes = cond (eqb (length bytes) 0) [] (line time bytes)

-- the records that were used
abbrev pub used_of : Gathered → ℕ
used_of (Datagram count time) = count
used_of (Cancelled used) = used
used_of Stray = 1

-- the bytes that were handed out
abbrev pub count_of : Gathered → ℕ
count_of (Datagram count time) = count
count_of (Cancelled used) = 0
count_of Stray = 0

-- the time of the line, if there is one
abbrev pub time_of : Gathered → ℕ
time_of (Datagram count time) = time
time_of (Cancelled used) = 0
time_of Stray = 0

-- the same listener, with what was gathered counted
abbrev pub tally_of : Progress → Gathered → Progress
tally_of p (Datagram count time) = tallied p true false false
tally_of p (Cancelled used) = tallied p false true false
tally_of p Stray = tallied p false false true

-- A listener that holds nothing takes these records, one at least, as the walk does, whatever a line is, and holds nothing after
-- them. How many records are taken at once is left open, and so are the bytes past those handed out.
pub record GatherStep (s : List ℕ) (at : ℕ) (bytes : List ℕ) (g : Gathered) : Type 0 where
  pub some : 0 < used_of g
  pub fits : used_of g ≤ records_from s at
  pub most : count_of g ≤ 18
  pub handed : 0 < count_of g → whole (take (count_of g) bytes) ≡ true
  pub goes : (line : Line) (p : Progress) (room : ℕ) → p.listener ≡ empty_listener → line_room ≤ room
      → walk_from line (records_from s at) s at p room
      ≡ behind (entry line (time_of g) (take (count_of g) bytes))
      (walk_from line (records_from s at - used_of g) s (at + 8 * used_of g) (tally_of p g)
      (room - length (entry line (time_of g) (take (count_of g) bytes))))

-- the walk goes on behind the text of the record that was heard
pub record RecordGoes (s : List ℕ) (at : ℕ) (p : Progress) (t : HeardRecord) : Type 0 where
  pub long : length t.bytes ≡ 18
  pub most : t.count ≤ 18
  pub handed : 0 < t.count → (whole (take t.count t.bytes) ≡ true) × (t.progress.listener ≡ empty_listener)
  pub goes : (line : Line) (left room : ℕ) → 0 < left → line_room ≤ room
      → walk_from line left s at p room
      ≡ behind (entry line t.time (take t.count t.bytes))
      (walk_from line (left - 1) s (at + 8) t.progress (room - length (entry line t.time (take t.count t.bytes))))

-- the walk ends here
pub record RecordEnds (s : List ℕ) (at : ℕ) (p : Progress) (stop : Option Refusal) : Type 0 where
  pub ends : (line : Line) (left room : ℕ) → 0 < left → line_room ≤ room → walk_from line left s at p room ≡ walk [] p at stop

-- the record was heard, or none stands there, or it is refused
abbrev pub RecordStep : List ℕ → ℕ → Progress → Result (Option HeardRecord) Refusal → Type 0
RecordStep s at p (Ok (Some t)) = RecordGoes s at p t
RecordStep s at p (Ok None) = RecordEnds s at p None
RecordStep s at p (Err r) = RecordEnds s at p (Some r)

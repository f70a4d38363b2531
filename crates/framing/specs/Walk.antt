-- A recording as text: each record is heard in the state that the one before it left, and each datagram handed out is a line.
-- How a line is spelled, from the time of its last symbol and its bytes, is a parameter: framing does not depend on it.
use Rattle.std.specs.Prelude.{ℕ, zero, suc, ◌+◌, ◌-◌, ◌/◌, cond, List, [], ◌++◌, leb, length, take, Result, Option, Ok, Err, Some, None}
use Rattle.listener.specs.declared.Heard.{Heard}
use Rattle.listener.specs.Answers.{is_handed}
use Rattle.listener.specs.Step.{hear_of}
use Rattle.recording.specs.declared.Record.{Record}
use Rattle.recording.specs.Record.{record_of}
use Rattle.progress.specs.declared.Progress.{Progress}
use Rattle.progress.specs.Progress.{advanced}
use Rattle.datagram.specs.declared.Refusal.{Refusal}

-- the line of a datagram, from the time of its last symbol and its bytes
abbrev pub Line : Type 0
Line = ℕ → List ℕ → List ℕ

-- a datagram handed out is a line with the time of its last symbol
abbrev pub entry_of : Line → ℕ → Heard → List ℕ
entry_of line time h = cond (is_handed h.answer) (line time (take h.count h.bytes)) []

-- the text of a walk over records, the progress after it, the offset that it reached, and why it ended
pub record Walk : Type 0 where
  pub text : List ℕ
  pub progress : Progress
  pub reached : ℕ
  pub stop : Option Refusal

abbrev pub walk : List ℕ → Progress → ℕ → Option Refusal → Walk
walk text p at stop = record { text = text; progress = p; reached = at; stop = stop }

-- this text first
abbrev pub behind : List ℕ → Walk → Walk
behind text w = walk (text ++ w.text) w.progress w.reached w.stop

-- the room that a line may need
abbrev pub line_room : ℕ
line_room = 512

-- one record: what it adds and how the walk goes on, or where it stops
abbrev pub walk_record : Result (Option Record) Refusal → Progress → ℕ → (ℕ → Heard → Walk) → Walk
walk_record (Ok (Some r)) p at goOn = goOn r.time (hear_of p.listener r.symbol)
walk_record (Ok None) p at goOn = walk [] p at None
walk_record (Err r) p at goOn = walk [] p at (Some r)

-- so many records from an offset on, as long as there is room for a line
unfoldable pub walk_from : Line → ℕ → List ℕ → ℕ → Progress → ℕ → Walk
walk_from line zero s at p room = walk [] p at None
walk_from line (suc k) s at p room =
    cond (leb line_room room)
    (walk_record (record_of s at) p at
    (λ time h. behind (entry_of line time h) (walk_from line k s (at + 8) (advanced p h) (room - length (entry_of line time h)))))
    (walk [] p at None)

-- the whole records of a block
abbrev pub records_in : List ℕ → ℕ
records_in s = length s / 8

-- the whole records from an offset on
abbrev pub records_from : List ℕ → ℕ → ℕ
records_from s at = (length s - at) / 8

-- so many records from an offset on
unfoldable pub walk_all : Line → ℕ → List ℕ → ℕ → Progress → Walk
walk_all line zero s at p = walk [] p at None
walk_all line (suc k) s at p =
    walk_record (record_of s at) p at (λ time h. behind (entry_of line time h) (walk_all line k s (at + 8) (advanced p h)))

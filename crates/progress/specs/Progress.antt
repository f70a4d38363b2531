-- What is carried from block to block of a listing: the listener and the counts; and what refuses the bytes where it ends
-- (rules 10.1, 10.3).
use Rattle.std.specs.Prelude.{ℕ, ◌+◌, ◌%◌, ◌^◌, Bool, true, false, Result, Option, Ok, Err, Some, None}
use Rattle.listener.specs.declared.Heard.{Heard}
use Rattle.listener.specs.Answers.{is_handed, is_cancelled, is_stray}
use Rattle.listener.specs.State.{empty_listener}
use Rattle.recording.specs.declared.Record.{Record}
use Rattle.progress.specs.declared.Progress.{Progress}
use Rattle.datagram.specs.declared.Refusal.{Refusal}

-- nothing heard yet
abbrev pub begun : Progress
begun = record { listener = empty_listener; handed = 0; cancelled = 0; stray = 0 }

-- one more on a 64-bit counter where the answer is of that sort
abbrev pub counted : Bool → ℕ → ℕ
counted true n = (n + 1) % 2 ^ 64
counted false n = n

-- the progress after an answer
abbrev pub advanced : Progress → Heard → Progress
advanced p h =
    record {
      listener = h.listener;
      handed = counted (is_handed h.answer) p.handed;
      cancelled = counted (is_cancelled h.answer) p.cancelled;
      stray = counted (is_stray h.answer) p.stray;
    }

-- the same listener, with what was heard counted
abbrev pub tallied : Progress → Bool → Bool → Bool → Progress
tallied p handed cancelled stray =
    record {
      listener = p.listener;
      handed = counted handed p.handed;
      cancelled = counted cancelled p.cancelled;
      stray = counted stray p.stray;
    }

-- what stands at an offset where no whole record is left: the end, or a record cut short
abbrev pub cut_off : Result (Option Record) Refusal → Option Refusal
cut_off (Ok (Some r)) = None
cut_off (Ok None) = None
cut_off (Err r) = Some r

-- a refusal's place counted from so many bytes earlier, on a 64-bit counter
abbrev pub placed_from : ℕ → Option Refusal → Option Refusal
placed_from base None = None
placed_from base (Some r) = Some (record { number = r.number; place = (base + r.place) % 2 ^ 64 })

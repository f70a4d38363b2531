-- A whole recording as the recording reader gives it, record after record from its first byte on.
use Rattle.std.specs.Prelude.{ℕ, zero, suc, ◌+◌, ◌/◌, List, [], ◌∷◌, length, Result, Option, Ok, Err, None, Some}
use Rattle.recording.specs.declared.Record.{Record}
use Rattle.recording.specs.Record.{record_of}
use Rattle.datagram.specs.declared.Refusal.{Refusal}

-- the times and symbols of the records, and what stands where they end: the end of the recording, or a refusal
pub record File : Type 0 where
  pub times : List ℕ
  pub symbols : List ℕ
  pub last : Result (Option Record) Refusal

abbrev pub file : List ℕ → List ℕ → Result (Option Record) Refusal → File
file times symbols last = record { times = times; symbols = symbols; last = last }

-- a record before those that follow it; the end and a refusal have none behind them
abbrev pub before : Result (Option Record) Refusal → File → File
before (Ok (Some r)) later = file (r.time ∷ later.times) (r.symbol ∷ later.symbols) later.last
before (Ok None) later = file [] [] (Ok None)
before (Err r) later = file [] [] (Err r)

-- so many records from an offset on
unfoldable pub read_from : ℕ → List ℕ → ℕ → File
read_from zero s at = file [] [] (record_of s at)
read_from (suc n) s at = before (record_of s at) (read_from n s (at + 8))

-- the whole recording, which has room for so many records
unfoldable pub file_read : List ℕ → File
file_read s = read_from (length s / 8) s 0

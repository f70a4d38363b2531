-- Records written into a lent buffer of bytes, from the position that the caller names (rules 9.3, 9.4).
use Rattle.std.specs.Prelude.{ℕ, ◌*◌, Bool, cond, List, [], ◌∷◌, ◌++◌, leb, eqb, length, Err}
use Rattle.datagram.specs.Position.{Outcome, outcome, stored_at}
use Rattle.datagram.specs.Refusals.{different_lengths, symbol_above}
use Rattle.datagram.specs.Whole.{all_below}
use Rattle.recording.specs.Record.{record_bytes}

-- one record: refusal 1 for a symbol above 511, then 8
unfoldable pub record_written : ℕ → ℕ → List ℕ → ℕ → Outcome
record_written time symbol buffer at =
    cond (leb symbol 511) (stored_at 8 (record_bytes time symbol) buffer at) (outcome (Err symbol_above) buffer)

-- every number is a symbol, 0 to 511
abbrev pub all_symbols : List ℕ → Bool
all_symbols = all_below 512

-- a record for each time and its symbol, one after the other
abbrev pub file_of : List ℕ → List ℕ → List ℕ
file_of [] symbols = []
file_of (time ∷ times) [] = []
file_of (time ∷ times) (symbol ∷ symbols) = record_bytes time symbol ++ file_of times symbols

-- a run of records: refusal 11 for lists of different lengths, then 1 for a symbol above 511, then 8
unfoldable pub run_written : List ℕ → List ℕ → List ℕ → ℕ → Outcome
run_written times symbols buffer at =
    cond (eqb (length times) (length symbols))
    (cond (all_symbols symbols)
    (stored_at (8 * length times) (file_of times symbols) buffer at)
    (outcome (Err symbol_above) buffer))
    (outcome (Err different_lengths) buffer)

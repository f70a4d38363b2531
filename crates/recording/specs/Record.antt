-- A record is the mark 53 54, the time as 32 bits and the symbol as 16 bits, low byte first (rules 9).
use Rattle.std.specs.Prelude.{ℕ, ◌+◌, ◌-◌, ◌&&◌, cond, List, [], ◌∷◌, ◌++◌, leb, eqb, length, get_or, Result, Option, Ok, Err, Some, None}
use Rattle.datagram.specs.Refusals.{no_mark, cut_short, symbol_above_at}
use Rattle.number.specs.Word.{word, long, long_bytes, low_byte, high_byte}
use Rattle.recording.specs.declared.Record.{Record}
use Rattle.datagram.specs.declared.Refusal.{Refusal}

-- the eight bytes of a record
abbrev pub record_bytes : ℕ → ℕ → List ℕ
record_bytes time symbol = 0x53 ∷ 0x54 ∷ (long_bytes time ++ (low_byte symbol ∷ high_byte symbol ∷ []))

-- byte i of the record at an offset
abbrev pub byte_of : List ℕ → ℕ → ℕ → ℕ
byte_of s at i = get_or s (at + i) 0

abbrev pub time_at : List ℕ → ℕ → ℕ
time_at s at = long (byte_of s at 2) (byte_of s at 3) (byte_of s at 4) (byte_of s at 5)

abbrev pub symbol_at : List ℕ → ℕ → ℕ
symbol_at s at = word (byte_of s at 6) (byte_of s at 7)

-- a record was heard
abbrev pub heard : ℕ → ℕ → Result (Option Record) Refusal
heard time symbol = Ok (Some (record { time = time; symbol = symbol }))

-- the mark, then the symbol
abbrev pub judged_record : ℕ → ℕ → ℕ → ℕ → ℕ → Result (Option Record) Refusal
judged_record at mark second time symbol =
    cond (eqb mark 0x53 && eqb second 0x54) (cond (leb symbol 511) (heard time symbol) (Err (symbol_above_at at))) (Err (no_mark at))

-- an offset past the end, or 1 to 7 bytes left, is refusal 11; the length itself is the end
unfoldable pub record_of : List ℕ → ℕ → Result (Option Record) Refusal
record_of s at =
    cond (leb at (length s))
    (cond (eqb (length s) at) (Ok None)
    (cond (leb 8 (length s - at)) (judged_record at (get_or s at 0) (byte_of s at 1) (time_at s at) (symbol_at s at)) (Err (cut_short at))))
    (Err (cut_short at))

-- Writing a message into a lent buffer of 16-bit numbers, from the position that the caller names
-- (rules 6).
use Rattle.std.specs.Prelude.{ℕ, List, length, Result, Ok, Err, ⊤}
use Rattle.datagram.specs.Whole.{symbols}
use Rattle.datagram.specs.Position.{Outcome, outcome, stored_at, stored_front}
use Rattle.message.specs.declared.Message.{Message}
use Rattle.message.specs.Range.{range_of}
use Rattle.message.specs.Spelling.{bytes_of}
use Rattle.datagram.specs.declared.Refusal.{Refusal}

-- the symbols of these bytes at the front of the lent part, or refusal 8
abbrev pub store_of : List ℕ → List ℕ → Outcome
store_of bytes part = stored_front (length bytes) (symbols bytes) part

-- refusal 7; then 8 where the position is past the end or fewer numbers remain than the length
abbrev pub ruled_write : Result ⊤ Refusal → List ℕ → List ℕ → ℕ → Outcome
ruled_write (Err r) bytes buffer at = outcome (Err r) buffer
ruled_write (Ok tt) bytes buffer at = stored_at (length bytes) (symbols bytes) buffer at

unfoldable pub write_of : Message → List ℕ → ℕ → Outcome
write_of m buffer at = ruled_write (range_of m) (bytes_of m) buffer at

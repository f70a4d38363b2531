-- Demand 2 about the definitions that the reader and the writer equal (rules 13.2).
use Rattle.std.specs.Prelude.{◌≡◌, true, List, ◌++◌, ℕ, ◌+◌, ◌≤◌, length, take, drop, Ok, Some}
use Rattle.datagram.specs.Whole.{whole, all_bytes}
use Rattle.message.specs.declared.Row.{Row}
use Rattle.message.specs.declared.Message.{Message}
use Rattle.message.specs.Table.{find_of}
use Rattle.message.specs.Fields.{kind_of}
use Rattle.message.specs.Range.{range_of}
use Rattle.message.specs.Spelling.{bytes_of, symbols_of}
use Rattle.message.specs.Reading.{byte, read_of}
use Rattle.roundtrip_laws.specs.Ignored.{ignored, as_written, agree_outside}
use Rattle.datagram.specs.Position.{outcome}
use Rattle.writer.specs.Writing.{write_of}

pub record RoundTrip : Type 0 where
  -- given room, a message in range is written: its symbols from the position on, every other number as it was
  pub written : (m : Message) (buffer : List ℕ) (at : ℕ) → range_of m ≡ (Ok tt) → at + length (bytes_of m) ≤ length buffer
      → write_of m buffer at ≡ outcome (Ok (length (bytes_of m))) (take at buffer ++ (symbols_of m ++ drop (at + length (bytes_of m)) buffer))
  -- the writer accepts no other message
  pub accepted : (m : Message) (buffer : List ℕ) (at n : ℕ) → (write_of m buffer at).answer ≡ Ok n → range_of m ≡ Ok tt
  -- what the writer gives is a whole datagram of bytes
  pub whole_datagram : (m : Message) → whole (bytes_of m) ≡ true
  pub all_bytes_lem : (m : Message) → all_bytes (bytes_of m) ≡ true
  -- a message whose fields are in range is written and reads back the same
  pub reads_back_lem : (m : Message) → range_of m ≡ (Ok tt) → read_of (bytes_of m) ≡ Ok m
  -- two messages in range with the same bytes are the same message
  pub one_message : (m n : Message) → range_of m ≡ (Ok tt) → range_of n ≡ (Ok tt) → bytes_of m ≡ bytes_of n → m ≡ n
  -- what is read is in range, so the writer takes it
  pub read_in_range : (s : List ℕ) (m : Message) → read_of s ≡ Ok m → range_of m ≡ Ok tt
  -- a datagram that is read and written again gives its own bytes, if its ignored bits stand as the writer sets them
  pub writes_back : (s : List ℕ) (m : Message) → all_bytes s ≡ true → read_of s ≡ Ok m → as_written (ignored (kind_of m)) s ≡ true → bytes_of m ≡ s
  -- the writer sets the ignored bits of every message so
  pub ignored_set : (m : Message) → as_written (ignored (kind_of m)) (bytes_of m) ≡ true
  -- bytes that differ in ignored bits alone read the same, or are refused the same
  pub ignored_unread : (s t : List ℕ) (row : Row) → all_bytes s ≡ true → all_bytes t ≡ true → find_of (byte s 0) ≡ Some row
      → length s ≡ length t → agree_outside (ignored row.kind) s t ≡ true → read_of s ≡ read_of t

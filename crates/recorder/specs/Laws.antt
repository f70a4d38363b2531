-- What is written reads back, and what is read is written back (rules 9.5).
use Rattle.std.specs.Prelude.{◌≡◌, Bool, true, List, [], ◌∷◌, ◌++◌, ℕ, ◌+◌, ◌*◌, ◌≤◌, ◌<◌, ◌^◌, length, get_or, take, drop, Ok, None}
use Rattle.datagram.specs.Position.{outcome}
use Rattle.datagram.specs.Whole.{all_below, all_bytes}
use Rattle.recording.specs.Record.{record_of, heard}
use Rattle.recorder.specs.Recording.{all_symbols, file_of, record_written, run_written}
use Rattle.recorder.specs.File.{file, file_read}

-- every number is a time, which has 32 bits
abbrev pub all_times : List ℕ → Bool
all_times = all_below (2 ^ 32)

pub record RecordingLaws : Type 0 where
  -- given room, lists of one length with symbols up to 511 are written: eight bytes for each, every other byte as it was
  pub written : (times symbols buffer : List ℕ) (at : ℕ) → length times ≡ length symbols → all_symbols symbols ≡ true
      → at + 8 * length times ≤ length buffer
      → run_written times symbols buffer at
      ≡ outcome (Ok (8 * length times)) (take at buffer ++ (file_of times symbols ++ drop (at + 8 * length times) buffer))
  -- no other run is
  pub accepted : (times symbols buffer : List ℕ) (at n : ℕ) → (run_written times symbols buffer at).answer ≡ Ok n
      → (length times ≡ length symbols) × ((all_symbols symbols ≡ true) × (at + 8 * length times ≤ length buffer))
  -- a run that was written reads as its own times and symbols, each record where it stands in the buffer
  pub in_place : (times symbols buffer : List ℕ) (at n i : ℕ) → all_times times ≡ true
      → (run_written times symbols buffer at).answer ≡ Ok n → i < length times
      → record_of (run_written times symbols buffer at).buffer (at + 8 * i) ≡ heard (get_or times i 0) (get_or symbols i 0)
  -- the bytes that it stored, taken as a recording of their own, are these records and nothing more
  pub own_file : (times symbols buffer : List ℕ) (at n : ℕ) → all_times times ≡ true
      → (run_written times symbols buffer at).answer ≡ Ok n
      → file_read (take n (drop at (run_written times symbols buffer at).buffer)) ≡ file times symbols (Ok None)
  -- a whole recording that is read without a refusal and written gives its own bytes
  pub read_writes : (s buffer : List ℕ) (at : ℕ) → all_bytes s ≡ true → (file_read s).last ≡ (Ok None) → at + length s ≤ length buffer
      → run_written (file_read s).times (file_read s).symbols buffer at
      ≡ outcome (Ok (length s)) (take at buffer ++ (s ++ drop (at + length s) buffer))
  -- one record is a run of one
  pub one_is_run : (time symbol : ℕ) (buffer : List ℕ) (at : ℕ)
      → record_written time symbol buffer at ≡ run_written (time ∷ []) (symbol ∷ []) buffer at

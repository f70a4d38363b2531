-- Cases at the edges of rules 9.3 to 9.5, in numbers.
use Rattle.std.specs.Prelude.{ℕ, ◌≡◌, List, [], ◌∷◌, ◌++◌, Ok, Err, None}
use Rattle.datagram.specs.Position.{outcome}
use Rattle.datagram.specs.Refusals.{refusal, refusal_at}
use Rattle.recorder.specs.Recording.{record_written, run_written}
use Rattle.recorder.specs.File.{file, file_read}

-- symbol 03E at time 100 and symbol 1FF at the last time, each as its record
abbrev pub first : List ℕ
first = 0x53 ∷ 0x54 ∷ 0x64 ∷ 0x00 ∷ 0x00 ∷ 0x00 ∷ 0x3E ∷ 0x00 ∷ []

abbrev pub second : List ℕ
second = 0x53 ∷ 0x54 ∷ 0xFF ∷ 0xFF ∷ 0xFF ∷ 0xFF ∷ 0xFF ∷ 0x01 ∷ []

-- seven bytes to be overwritten or left
abbrev pub seven : List ℕ
seven = 1 ∷ 2 ∷ 3 ∷ 4 ∷ 5 ∷ 6 ∷ 7 ∷ []

pub record RecordingExamples : Type 0 where
  -- two records from position 1 on; one byte before them and one behind stay
  pub two_records : run_written (100 ∷ 4294967295 ∷ []) (0x03E ∷ 0x1FF ∷ []) ((1 ∷ seven) ++ (seven ++ (7 ∷ 8 ∷ 9 ∷ []))) 1
      ≡ outcome (Ok 16) ((1 ∷ first) ++ (second ++ (9 ∷ [])))
  -- no records are written at the end of a buffer, and not past it
  pub none_at_the_end : run_written [] [] seven 7 ≡ outcome (Ok 0) seven
  pub none_past_the_end : run_written [] [] seven 8 ≡ outcome (Err (refusal 8)) seven
  -- seven bytes are no room for a record
  pub seven_left : record_written 100 0x03E seven 0 ≡ outcome (Err (refusal 8)) seven
  -- 1 before 8, and 11 before both
  pub above_without_room : record_written 100 512 seven 8 ≡ outcome (Err (refusal 1)) seven
  pub last_above_without_room : run_written (100 ∷ 200 ∷ []) (511 ∷ 512 ∷ []) seven 8 ≡ outcome (Err (refusal 1)) seven
  pub all_wrong : run_written (100 ∷ []) (512 ∷ 512 ∷ []) seven 8 ≡ outcome (Err (refusal 11)) seven
  -- the two records are a recording, and with a byte more one that is cut short there
  pub read_whole : file_read (first ++ second) ≡ file (100 ∷ 4294967295 ∷ []) (0x03E ∷ 0x1FF ∷ []) (Ok None)
  pub read_cut : file_read (first ++ (second ++ (0x53 ∷ []))) ≡ file (100 ∷ 4294967295 ∷ []) (0x03E ∷ 0x1FF ∷ []) (Err (refusal_at 11 16))

-- The edges of rules 9.3 to 9.5, computed from the definitions.
use mathlib.Core.Path.{refl}
use Rattle.recording.specs.Record.{record_of}
use Rattle.recorder.specs.Recording.{record_written, run_written}
use Rattle.recorder.specs.File.{read_from, file_read}
use Rattle.recorder.specs.Examples.{RecordingExamples}

pub recording_examples : RecordingExamples
unfolding record_of record_written run_written read_from file_read
recording_examples =
    record {
      two_records = refl;
      none_at_the_end = refl;
      none_past_the_end = refl;
      seven_left = refl;
      above_without_room = refl;
      last_above_without_room = refl;
      all_wrong = refl;
      read_whole = refl;
      read_cut = refl;
    }

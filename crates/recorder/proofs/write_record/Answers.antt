-- `write_record` judges the symbol and the room, and stores the record from the position on.
use Rattle.std.specs.Prelude.{Ok}
use borrow.Author.Tests.{le-leb}
use mathlib.Core.Path.{ap, ◌∙◌}
use mathlib.Core.List.{append_assoc}
use Prim.Native.Nat.{◌+◌, ◌-◌}
use native.Mathlib.Omega.{arith}
use lib.ListN.{length, take, drop}
use lib.Seq.{sets-eq}
use Rattle.datagram.specs.Position.{outcome}
use Rattle.recording.specs.Record.{record_bytes}
use Rattle.recorder.specs.Recording.{record_written}
use Rattle.recorder.proofs.write_record.Goals as goal

pub returns : goal.returns
unfolding record_written
returns c =
    let a = c.args in
    let room = length a.buf.now in
    let bytes = record_bytes a.time a.symbol in
    rw (le-leb a.symbol 511 (omega arith), le-leb a.at room (omega arith), le-leb 8 (room - a.at) (omega arith))
    (ap (outcome (Ok 8))
    (c.put_record.ensures
    ∙ sets-eq bytes a.buf.now a.at (omega arith)
    ∙ append_assoc (take a.at a.buf.now) bytes (drop (a.at + 8) a.buf.now)))

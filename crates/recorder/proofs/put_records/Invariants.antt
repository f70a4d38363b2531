-- `put_records` has stored the first i records after i iterations.
use mathlib.Core.Path.{◌≡◌}
use mathlib.Core.List.{◌++◌}
use Prim.Native.Nat.{◌*◌, ◌≤◌}
use lib.ListN.{length, take, drop}
use Rattle.std.specs.Slice.Iter.{iter_rest}
use Rattle.recorder.specs.Recording.{file_of}
use Rattle.recorder.proofs.put_records.Given as goal

abbrev pub invariant-loop-i : goal.invariant-loop-i
invariant-loop-i l =
    let i = l.i-iterator.count in
    record {
      within : i ≤ length l.times;
      times : iter_rest l.i-iterator.iter.a ≡ drop i l.times;
      symbols : iter_rest l.i-iterator.iter.b ≡ drop i l.symbols;
      part : l.part ≡ file_of (take i l.times) (take i l.symbols) ++ drop (8 * i) l.initial.part;
    }

-- `gather` has the bytes of the first i records after i iterations; a command symbol, or their number, ends them.
use Prim.Native.Nat.{◌≤◌, ◌<◌}
use Rattle.framing.proofs.Gathering.{Gathering}
use Rattle.framing.proofs.gather.Given as goal

abbrev pub invariant-loop-i : goal.invariant-loop-i
invariant-loop-i l = (0 < l.i) × (l.i ≤ l.n) × Gathering l.input l.at l.bytes l.i

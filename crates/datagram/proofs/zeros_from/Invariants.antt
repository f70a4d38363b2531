-- `zeros_from` has seen zeros up to i, eight at a time, and the last eight decide.
use mathlib.Core.Path.{◌≡◌}
use Prim.Native.Nat.{◌≤◌}
use lib.ListN.{length, drop}
use Rattle.datagram.specs.Padding.{all_zero}
use Rattle.datagram.proofs.zeros_from.Given as goal

abbrev pub invariant-loop-i : goal.invariant-loop-i
invariant-loop-i l = (l.from ≤ l.i) × (l.i ≤ length l.bytes) × (all_zero (drop l.from l.bytes) ≡ all_zero (drop l.i l.bytes))

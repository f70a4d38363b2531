-- `store` puts the symbols one by one: before symbol i those before it stand there, and the rest is as it was.
use mathlib.Core.Path.{◌≡◌}
use mathlib.Core.List.{◌++◌}
use lib.ListN.{take, drop}
use Rattle.datagram.specs.Whole.{symbols}
use Rattle.writer.proofs.store.store.Given as goal

abbrev pub invariant-loop-i : goal.invariant-loop-i
invariant-loop-i g l = l.part ≡ take l.i (symbols l.bytes) ++ drop l.i l.fn.part

-- `store` has laid out the first i symbols after i iterations.
use mathlib.Core.Path.{◌≡◌}
use mathlib.Core.List.{◌++◌}
use Prim.Native.Nat.{◌*◌}
use lib.ListN.{take, drop}
use Rattle.seatalk.specs.Write.{symbols_bytes}
use Rattle.seatalk.proofs.write.store.Given as goal

abbrev pub invariant-loop-i : goal.invariant-loop-i
invariant-loop-i l = l.res ≡ symbols_bytes (take l.i l.symbols) ++ drop (2 * l.i) l.initial.res

-- `store_part` has laid out the fields before i at each iteration.
use Rattle.seatalk.specs.Read.{Grown}
use Rattle.seatalk.proofs.read.store_part.Given as goal

abbrev pub invariant-loop-i : goal.invariant-loop-i
invariant-loop-i l = Grown l.f.values l.from l.initial.res l.i l.res

-- `put_digits` puts two digits at a time, and then the one or two that are left.
use Rattle.listing.proofs.Decimal.{Partly}
use Rattle.listing.proofs.put_digits.Given as goal

abbrev pub invariant-loop-m : goal.invariant-loop-m
invariant-loop-m l = Partly l.initial.out l.at l.n l.out l.e l.m

abbrev pub decreases-loop-m : goal.decreases-loop-m
decreases-loop-m l = l.m

-- `put_digits` puts two digits at a time, and then the one or two that are left.
use Rattle.std.proofs.Common.{◌≡◌, ◌+◌, ◌∙◌, length, arith}
use Rattle.listing.specs.Text.{decimal}
use Rattle.listing.proofs.Decimal.{log_length, partly_none, partly_length, partly_more, partly_one, partly_two}
use Rattle.listing.proofs.put_digits.Goals as goal
use Rattle.listing.proofs.put_digits.Goals.{After-ilog10}

-- how many digits the number has
counted : (c : goal.After-ilog10) → c.ilog10.result + 1 ≡ length (decimal c.args.n)
counted c = let e = c.ilog10.ensures in log_length c.ilog10.result c.args.n e.bound e.power_le e.next_power_gt

pub loop-m-init : goal.loop-m-init
loop-m-init c = partly_none _ _ _ _ (omega arith) (omega (arith, counted (goal.at.loop-m-init c).After-ilog10))

pub overflow_sub-e : goal.overflow_sub-e
overflow_sub-e c = omega (arith, partly_length c.loop-m.invariant c.loop-m-test.true)

pub loop-m-preserved : goal.loop-m-preserved
loop-m-preserved c =
    rw c.put_pair.ensures.stored (partly_more c.loop-m.invariant c.loop-m-test.true)

pub returns-then-m-lt10 : goal.returns-then-m-lt10
returns-then-m-lt10 c =
    record {
      stored = partly_one c.loop-m.invariant c.if-m-lt10.true;
      moved = omega (arith, counted (goal.at.returns-then-m-lt10 c).After-ilog10);
    }

pub returns-else-m-lt10 : goal.returns-else-m-lt10
returns-else-m-lt10 c =
    record {
      stored = c.put_pair-else-m-lt10.ensures.stored ∙ partly_two c.loop-m.invariant (omega arith) (omega arith);
      moved = omega (arith, counted (goal.at.returns-else-m-lt10 c).After-ilog10);
    }

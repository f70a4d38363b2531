-- `put_decimal` stores one, two or three digits as they are.
use native.Mathlib.Omega.{arith}
use Rattle.listing.proofs.Decimal.{decimal_one, decimal_two, decimal_three}
use Rattle.listing.proofs.Put.{put_then, put_one}
use Rattle.listing.proofs.put_decimal.Goals as goal

pub returns-then-n-lt10 : goal.returns-then-n-lt10
returns-then-n-lt10 c =
    let text = decimal_one c.args.n c.if-n-lt10.true in
    record { stored = rw text; moved = rw text (omega arith) }

pub returns-then-n-lt100 : goal.returns-then-n-lt100
returns-then-n-lt100 c = rw (decimal_two c.args.n c.if-n-lt10.false c.if-n-lt100.true) c.put_pair.ensures

pub returns-then-n-lt1000 : goal.returns-then-n-lt1000
returns-then-n-lt1000 c =
    rw (decimal_three c.args.n c.if-n-lt100.false c.if-n-lt1000.true) (put_then (put_one _ _ _) c.put_pair-then-n-lt1000.ensures)

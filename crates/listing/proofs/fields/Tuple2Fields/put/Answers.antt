-- The second puts its numbers behind those of the first.
use Rattle.std.proofs.Common.{length-append}
use native.Mathlib.Omega.{arith}
use lib.IntN.{ℤ}
use Rattle.listing.proofs.Put.{put_length}
use Rattle.listing.proofs.Spaced.{numbers_then, numbers_length}
use Rattle.listing.proofs.fields.Tuple2Fields.put.Goals as goal

pub put-requires : goal.put-requires
put-requires g c =
    let p = c.put-p.ensures in
    omega (arith, c.requires, p.moved, put_length {b = c.put-p.new.out} p, numbers_length (g.A.Fields.numbers c.args.self.0), length-append {A = ℤ})

pub returns : goal.returns
returns g c = numbers_then (g.A.Fields.numbers c.args.self.0) (g.B.Fields.numbers c.args.self.1) c.put-p.ensures c.put.ensures

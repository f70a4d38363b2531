-- `list` writes no more than was put, and holds no more than it did.
use Rattle.std.proofs.Common.{arith}
use Rattle.stream.proofs.Passes.{written_fits, held_within}
use Rattle.buslist.proofs.Listing.list.Goals as goal

pub invariant_of-self : goal.invariant_of-self
invariant_of-self g c =
    let s = c.args.self.now in
    record { within = omega (arith, s.within, held_within s.progress s.base s.held s.input s.out (omega (arith, s.within)) c.list_held-pass.ensures) }

pub write-requires : goal.write-requires
write-requires g c =
    let s = c.args.self.now in
    omega (arith, written_fits s.progress s.base s.held s.input s.out (omega (arith, s.within)) c.list_held-pass.ensures)

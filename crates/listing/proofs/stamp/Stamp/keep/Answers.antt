-- A number spelled anew at the front of the digits is kept in them.
use Rattle.std.proofs.Common.{rules}
use Rattle.listing.proofs.Times.{kept_anew}
use Rattle.listing.proofs.stamp.Stamp.keep.Goals as goal

pub invariant_of-self : goal.invariant_of-self
invariant_of-self c = record { kept = kept_anew (search rules) (rw c.from.ensures at c.put_decimal-self.ensures) }

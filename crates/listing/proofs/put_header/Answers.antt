-- `put_header` tests the length as the definition does, and puts the line at the front.
use borrow.Author.Tests.{le-leb}
use native.Mathlib.Omega.{arith}
use Rattle.listing.specs.Text.{decimal}
use Rattle.listing.proofs.Put.{put_stored}
use Rattle.listing.proofs.put_header.Goals as goal

pub returns : goal.returns
unfolding decimal
returns c = rw (le-leb _ _ c.if-out-lt512.false) (put_stored c.put_bytes.ensures (omega arith))

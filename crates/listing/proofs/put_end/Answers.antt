-- `put_end` tests the length as the definition does, and puts one text after the other at the front.
use borrow.Author.Tests.{le-leb}
use native.Mathlib.Omega.{arith}
use Rattle.listing.proofs.Put.{put_then, put_stored}
use Rattle.listing.proofs.Lines.{end_most}
use Rattle.listing.proofs.put_end.Goals as goal

pub returns : goal.returns
returns c =
    let a = c.args in
    rw (le-leb _ _ c.if-out-lt512.false)
    (put_stored (put_then c.put_stop-p.ensures c.put_counts.ensures)
    (omega (arith, end_most a.progress a.stop)))

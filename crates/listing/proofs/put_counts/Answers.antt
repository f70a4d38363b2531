-- `put_counts` puts the pieces in the definition's order.
use Rattle.listing.proofs.Put.{put_then, put_one}
use Rattle.listing.proofs.put_counts.Goals as goal

pub returns : goal.returns
returns c = put_then c.put_labelled-p.ensures (put_then c.put_labelled-p-2.ensures (put_then c.put_labelled-p-3.ensures (put_one _ _ 10)))

-- `put_stop` goes by the case of the stop, as the definition does, and puts the pieces in its order.
use Rattle.listing.proofs.Put.{put_then, put_one}
use Rattle.listing.proofs.put_stop.Goals as goal

pub returns : goal.returns
returns c = rw (c.in-Some.is, ← c.from.ensures) (put_then c.put_labelled-p.ensures (put_then c.put_labelled-p-2.ensures (put_one _ _ 10)))

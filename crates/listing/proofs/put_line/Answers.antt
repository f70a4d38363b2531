-- `put_line` puts the pieces in the definition's order.
use Rattle.listing.proofs.Put.{put_then, put_one}
use Rattle.listing.proofs.put_line.Goals as goal

pub returns : goal.returns
returns c =
    put_then c.put-p.ensures (put_then c.put_hex-p.ensures (put_then c.put_content-p.ensures (put_one _ _ 10)))

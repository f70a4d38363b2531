-- `put_labelled` puts the label and then the digits.
use Rattle.listing.proofs.Put.{put_then}
use Rattle.listing.proofs.put_labelled.Goals as goal

pub returns : goal.returns
returns c = put_then c.put_bytes-p.ensures c.put_decimal.ensures

-- `put_fields` puts the label and then the fields.
use Rattle.listing.proofs.Put.{put_then}
use Rattle.listing.proofs.fields.put_fields.Goals as goal

pub returns : goal.returns
returns g c = put_then c.put_bytes-p.ensures c.put.ensures

-- `put_hex` has put the bytes before the index.
use Rattle.std.proofs.Common.{arith, rules}
use Rattle.listing.proofs.Put.{put_then}
use Rattle.listing.proofs.Spaced.{hex_next}
use Rattle.listing.proofs.put_hex.Goals as goal

pub loop-b-preserved : goal.loop-b-preserved
loop-b-preserved c =
    let v = c.loop-b in
    let bytes = c.args.bytes.now in
    (search rules, rw (hex_next v.b-index bytes (omega arith)) (put_then v.invariant.1 c.put_hex_byte-p.ensures))

-- `put` stores the kept digits and then two pairs, the first where the kept digits end.
use Rattle.std.proofs.Common.{◌≡◌, ◌∙◌, sym, ap, take, arith}
use Rattle.std.proofs.lemmas.List.Edits.{sets}
use Rattle.listing.proofs.Put.{put_then}
use Rattle.listing.proofs.Times.{six, time_put}
use Rattle.listing.proofs.stamp.Stamp.put.Goals as goal

pub returns : goal.returns
returns c =
    let digits = c.keep.new.self.digits in
    let out = c.args.out.now in
    let kept = rw c.keep.ensures at c.keep.new.self.kept in
    let stored : c.put_bytes.new.out ≡ sets out c.args.at (take 6 digits) =
    c.put_bytes.ensures.stored ∙ ap (sets out c.args.at) (sym (six digits (omega (arith, kept.long)))) in
    time_put kept c.if-time-lt100000.false (omega (arith, c.ranges.time)) stored (rw c.from-last.ensures at (put_then c.put_pair-p.ensures c.put_pair.ensures))

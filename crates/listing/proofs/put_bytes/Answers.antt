-- `put_bytes` copies into the part that the text takes; what comes back stands between the bytes before it and those behind.
use Rattle.std.proofs.Common.{◌≡◌, ◌+◌, ◌-◌, length, refl, sym, append_assoc, drop-drop, arith}
use lib.Seq.{sets-eq}
use Rattle.listing.proofs.put_bytes.Goals as goal

pub returns : goal.returns
returns c =
    let out = c.args.out.now in
    let text = c.args.text.now in
    let at = c.args.at in
    let width : (at + length text) - at ≡ length text = omega arith in
    let parts = rw append_assoc at (sets-eq text out at c.requires) in
    record { stored = rw (c.copy_from_slice.ensures.after, width, drop-drop) (sym parts); moved = refl }

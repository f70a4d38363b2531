-- `put_content` judges wholeness and the command as the reader does, and reads by the kind of the row that was found.
use mathlib.Core.Path.{◌≡◌, sym, ◌∙◌}
use mathlib.Core.Bool.{true, false}
use native.Mathlib.Omega.{arith}
use Rattle.datagram.specs.Whole.{whole}
use Rattle.datagram.proofs.Whole.{declares}
use Rattle.message.specs.Reading.{read_of}
use Rattle.reader.proofs.OfKind.{of_found_kind}
use Rattle.listing.proofs.content.put_content.Goals as goal

pub returns-then-not-is_whole : goal.returns-then-not-is_whole
unfolding read_of
returns-then-not-is_whole c =
    let s = c.args.bytes.now in
    let partial : whole s ≡ false = sym c.is_whole.ensures ∙ c.if-not-is_whole.true in
    rw partial c.put_refused.ensures

pub bounds-bytes-0 : goal.bounds-bytes-0
bounds-bytes-0 c =
    let s = c.args.bytes.now in
    omega (arith, declares s (sym c.is_whole.ensures ∙ c.if-not-is_whole.false))

pub returns-in_default : goal.returns-in_default
unfolding read_of
returns-in_default c =
    let s = c.args.bytes.now in
    let w : whole s ≡ true = sym c.is_whole.ensures ∙ c.if-not-is_whole.false in
    let unknown = sym c.find.ensures ∙ c.in_default.is in
    rw (w, unknown) c.put_refused-in_default.ensures

pub returns : goal.returns
returns c =
    let s = c.args.bytes.now in
    let w : whole s ≡ true = sym c.is_whole.ensures ∙ c.if-not-is_whole.false in
    rw (← of_found_kind s c.in-Some.row w (sym c.find.ensures ∙ c.in-Some.is)) c.put_kind.ensures

-- The digit of a flag is that of its number.
use Rattle.std.proofs.Common.{◌≡◌, ◌+◌, Bool, true, false, [], ◌∷◌, add-one, arith}
use mir.Val.{bool_byte}
use Rattle.number.specs.Word.{num}
use Rattle.listing.specs.Text.{decimal}
use Rattle.listing.proofs.Decimal.{decimal_one}
use Rattle.listing.proofs.fields.BoolFields.put.Goals as goal

flag_text : (on : Bool) → decimal (num on) ≡ (48 + bool_byte on) ∷ []
flag_text true = decimal_one 1 (omega arith)
flag_text false = decimal_one 0 (omega arith)

pub returns : goal.returns
returns c =
    let text = flag_text c.args.self in
    record { stored = rw (text, c.from.ensures, add-one); moved = rw text (omega arith) }

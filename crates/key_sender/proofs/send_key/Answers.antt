-- `send_key` offers the bytes of the symbols that the writer stored, which are the message's.
use borrow.Author.Rules.{rules}
use mathlib.Core.Path.{◌∙◌}
use Rattle.message.specs.declared.Message.TheVariants.{Key}
use Rattle.message.specs.Range.{range_of}
use Rattle.writer.specs.Writing.{write_of}
use Rattle.key_sender.specs.Key.{key_of}
use Rattle.key_sender.proofs.Spelled.{mapped, key_refused, key_offered}
use Rattle.key_sender.proofs.send_key.Goals as goal

pub returns-in-Err : goal.returns-in-Err
unfolding key_of write_of
returns-in-Err c =
    let a = c.args in
    let w = c.write in
    c.refused_offer.ensures
    ∙ key_refused a.source a.code (range_of (Key a.source a.code)) _ w.new.buf (rw (c.from.ensures, c.from-2.ensures, c.in-Err.is) at w.ensures)

pub returns-in-Ok : goal.returns-in-Ok
unfolding key_of write_of
returns-in-Ok c =
    let a = c.args in
    let w = c.write in
    let bytes = mapped c.map.result w.new.buf c.map.ensures.items.long (λ i h. let k = c.map.ensures.items.at i 0 0 h in search rules) in
    c.offer.ensures
    ∙ rw bytes (key_offered a.source a.code (range_of (Key a.source a.code)) _ w.new.buf (rw (c.from.ensures, c.from-2.ensures, c.in-Ok.is) at w.ensures))

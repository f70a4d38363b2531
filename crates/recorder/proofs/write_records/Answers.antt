-- `write_records` judges the lists and lends the part from the position on; what comes back stands after the bytes before it.
use borrow.Author.Tests.{eq-eqb}
use mathlib.Core.Path.{◌≡◌, sym, ◌∙◌}
use mathlib.Core.Bool.{true}
use Prim.Native.Nat.{◌*◌}
use lib.ListN.{length}
use Rattle.datagram.proofs.Lent.{home}
use Rattle.recorder.specs.Recording.{all_symbols, file_of, run_written}
use Rattle.recorder.proofs.Files.{file_length}
use Rattle.recorder.proofs.write_records.Goals as goal

pub returns : goal.returns
unfolding run_written
returns c =
    let a = c.args in
    let times = a.times.now in
    let symbols = a.symbols.now in
    let all : all_symbols symbols ≡ true = sym c.all_symbols.ensures ∙ c.if-not-all_symbols.false in
    rw (eq-eqb (length times) (length symbols) c.if-times-symbols.false, all)
    (home (8 * length times) (file_of times symbols) a.buf.now a.at (file_length times symbols c.if-times-symbols.false)
    c.put_records.result _ c.if-buf-at.false c.put_records.ensures)

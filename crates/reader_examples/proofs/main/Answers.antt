-- `main` passes the table of the examples: by computing, so that a wrong table is told by the number that differs.
use Rattle.std.proofs.Common.{refl}
use Rattle.reader_examples.specs.Examples.{examples}
use Rattle.reader_examples.proofs.main.Goals as goal

pub show_all-requires : goal.show_all-requires
unfolding examples
show_all-requires c = (refl, refl)

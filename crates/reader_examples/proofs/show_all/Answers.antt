-- `show_all` reads the bytes of an example, so that the claim says what refusal it gets.
use Rattle.std.proofs.Common.{rules, ◌∙◌}
use Rattle.reader_examples.proofs.Examples.{row_right}
use Rattle.reader_examples.proofs.show_all.Goals as goal

pub prove_eq-unreachable-requires : goal.prove_eq-unreachable-requires
prove_eq-unreachable-requires g c =
    let expected = rw c.read-reading.ensures at c.refusal_of.ensures ∙ row_right _ _ _ c.requires c.loop-i-test.true in
    search rules

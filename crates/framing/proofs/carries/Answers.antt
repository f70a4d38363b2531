-- `carries` tests the mark, and that the last byte is the flag's number.
use Rattle.std.proofs.Common.{rules, eqb-true, ◌∙◌}
use Rattle.framing.proofs.Gathering.{carried}
use Rattle.framing.proofs.carries.Goals as goal

pub returns-then-eq : goal.returns-then-eq
returns-then-eq c = λ e. carried c.args.input.now c.args.at c.args.command c.requires (search rules) (search rules) (search rules) (eqb-true _ _ e ∙ c.from.ensures)

-- `record` refuses the symbol, and else returns what the recording writer did at the front of the result.
use mathlib.Core.Path.{ap, ◌∙◌}
use native.Mathlib.Omega.{arith}
use Rattle.std.proofs.lemmas.Result.{err_from_is_err_and}
use Rattle.seatalk.proofs.Recorded.{shown, recorded, eight}
use Rattle.seatalk.proofs.record.record.Goals as goal

pub overflow_cast-result : goal.overflow_cast-result
overflow_cast-result c =
    let a = c.args in
    let n = eight a.time a.symbol a.res.now c.if-symbol-gt511.false _ _ (rw c.in_ok-n.was at c.write_record.ensures) in
    omega arith

pub returns-in_err-n : goal.returns-in_err-n
returns-in_err-n c =
    let a = c.args in
    let p = err_from_is_err_and c.from_residual.result c.from_residual.ensures.1 in
    rw (p.1, p.2)
    (ap shown (rw c.in_err-n.was at c.write_record.ensures)
    ∙ recorded a.time a.symbol a.res.now c.if-symbol-gt511.false)

pub returns : goal.returns
returns c =
    let a = c.args in
    ap shown (rw c.in_ok-n.was at c.write_record.ensures) ∙ recorded a.time a.symbol a.res.now c.if-symbol-gt511.false

-- `list_first` lists the first n bytes and moves those behind what was used.
use Rattle.std.proofs.Common.{refl, arith}
use Rattle.stream.proofs.Held.{used_within, filled}
use Rattle.stream.proofs.list_first.Goals as goal

pub copy_within-requires-clause-start_le_end : goal.copy_within-requires-clause-start_le_end
copy_within-requires-clause-start_le_end c =
    let a = c.args in
    used_within a.progress a.n a.input.now a.out.now c.requires c.list_block-r.ensures

pub overflow_sub-result : goal.overflow_sub-result
overflow_sub-result c =
    let a = c.args in
    omega (arith, used_within a.progress a.n a.input.now a.out.now c.requires c.list_block-r.ensures)

pub returns : goal.returns
returns c =
    let a = c.args in
    filled a.progress a.n a.input.now a.out.now c.requires a.base c.list_block-r.ensures c.copy_within.ensures.after
    (rw c.placed_from.ensures refl)

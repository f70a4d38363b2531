-- `put_symbols` tests the room that the symbols need; the writer had room for any datagram, so it refused by the verdict alone.
use borrow.Author.Tests.{le-leb, lt-leb}
use mathlib.Core.Path.{sym}
use Prim.Native.Nat.{◌*◌}
use native.Mathlib.Omega.{arith}
use lib.ListN.{length}
use lib.Seq.{length-take-le}
use Rattle.std.proofs.lemmas.Result.{err_from_is_err_and}
use Rattle.seatalk.proofs.Spelled.{size, returned_refused, spelled}
use Rattle.seatalk.proofs.write.put_symbols.Goals as goal

pub overflow_mul-size : goal.overflow_mul-size
overflow_mul-size c =
    let k = spelled c.args.m _ _ (rw c.in_ok-n.was at c.write.ensures) in
    omega (arith, k.few)

pub returns-then-res-size : goal.returns-then-res-size
returns-then-res-size c =
    let a = c.args in
    let k = spelled a.m _ _ (rw c.in_ok-n.was at c.write.ensures) in
    rw (k.in_range_lem, size a.m, ← k.count, lt-leb (2 * c.in_ok-n.n) (length a.res.now) (omega arith))

pub slice_bounds-symbols-end : goal.slice_bounds-symbols-end
slice_bounds-symbols-end c =
    let k = spelled c.args.m _ _ (rw c.in_ok-n.was at c.write.ensures) in
    k.held

pub slice_bounds-store-end : goal.slice_bounds-store-end
slice_bounds-store-end c =
    let k = spelled c.args.m _ _ (rw c.in_ok-n.was at c.write.ensures) in
    sym (length-take-le c.in_ok-n.n c.write.new.buf k.held)

pub overflow_cast-result : goal.overflow_cast-result
overflow_cast-result c =
    let k = spelled c.args.m _ _ (rw c.in_ok-n.was at c.write.ensures) in
    omega (arith, k.few)

pub returns-in_err-n : goal.returns-in_err-n
returns-in_err-n c =
    let a = c.args in
    let p = err_from_is_err_and c.from_residual.result c.from_residual.ensures.1 in
    rw (p.1, p.2) (returned_refused a.m _ _ a.res.now (rw c.in_err-n.was at c.write.ensures))

pub returns : goal.returns
returns c =
    let a = c.args in
    let k = spelled a.m _ _ (rw c.in_ok-n.was at c.write.ensures) in
    rw (k.in_range_lem, size a.m, ← k.count, le-leb (2 * c.in_ok-n.n) (length a.res.now) (omega arith), c.store.ensures, length-take-le c.in_ok-n.n c.write.new.buf k.held, k.front)

-- `gather` has the bytes of the first i records after i iterations; a command symbol, or their number, ends them.
use Prim.Native.Nat.{ℕ, ◌+◌, ◌*◌, ◌%◌}
use mathlib.Core.Path.{◌≡◌, ap}
use native.Mathlib.Omega.{arith}
use Rattle.framing.proofs.Gathering.{gathered_more}
use Rattle.framing.proofs.Steps.{gathered_whole}
use Rattle.framing.proofs.gather.Goals as goal

pub loop-i-preserved : goal.loop-i-preserved
loop-i-preserved c =
    let v = c.loop-i in
    let at = c.args.at in
    (omega arith, omega arith, gathered_more c.args.input.now at v.bytes v.i v.invariant.2 v.invariant.0 (omega arith) (c.carries-in-loop-i.ensures (c.if-not-carries-2.false)) (omega (arith, c.type_inv.input (at + 8 * v.i + 6))))

pub returns : goal.returns
returns c =
    let v = c.loop-i in
    let n = 3 + c.from.result % 16 in
    let all : v.i ≡ n = omega (arith, c.loop-i-test.false, v.invariant.1) in
    (c.if-not-empty.false, gathered_whole v.invariant.2 (ap (λ (k : ℕ). 3 + k % 16) c.from.ensures) (omega (arith, c.if-left-n.false)) all _ c.time_at-time.ensures)

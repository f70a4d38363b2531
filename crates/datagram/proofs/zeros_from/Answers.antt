-- `zeros_from` has seen zeros up to i, eight at a time, and the last eight decide. The loop ends where i is not below the last eight, or
-- where the next i would not be.
use mathlib.Core.Path.{◌≡◌, sym, ap, ◌∙◌}
use Prim.Native.Nat.{ℕ, ◌+◌, ◌-◌}
use native.Mathlib.Omega.{arith}
use lib.Dec.{eqb}
use lib.ListN.{length, drop}
use Rattle.datagram.specs.Padding.{all_zero, word_from}
use Rattle.datagram.proofs.Zeros.{eight_zero, eight_not, last_eight}
use Rattle.datagram.proofs.zeros_from.Goals as goal
use Rattle.datagram.proofs.zeros_from.Goals.{else-loop-i-test, then-loop-i-test+else-eight-ne0+else-last-i-gt8}

pub returns-then-eight-ne0 : goal.returns-then-eight-ne0
returns-then-eight-ne0 c =
    let s = c.args.bytes.now in
    let v = c.loop-i in
    sym (eight_not s c.args.from v.i v.invariant.0 (omega arith) (λ e. c.if-eight-ne0.true (c.eight.ensures ∙ e)))

pub returns : goal.returns
returns c =
    let s = c.args.bytes.now in
    let from = c.args.from in
    let v = c.loop-i in
    let decided : eqb (word_from s (length s - 8) 0 8) 0 ≡ all_zero (drop from s) =
    elim c.loop-i-test.branch [
      | else-loop-i-test w ↦ last_eight s from v.i (omega arith) (omega arith) (omega arith) v.invariant.1 v.invariant.2
      | then-loop-i-test+else-eight-ne0+else-last-i-gt8 w ↦
          last_eight s from (v.i + 8) (omega arith) (omega arith) (omega arith) (omega arith)
          (v.invariant.2 ∙ eight_zero s v.i (omega arith) (sym w.eight.ensures ∙ w.if-eight-ne0.false))
    ] in
    ap (λ (w : ℕ). eqb w 0) c.eight-2.ensures ∙ decided

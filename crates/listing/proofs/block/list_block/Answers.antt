-- `list_block` walks on with what is taken: the text put so far stands before what the walk of the records left gives.
use Rattle.std.specs.Prelude.{None}
use borrow.Author.Tests.{ltb-true}
use mathlib.Core.Path.{◌≡◌}
use Prim.Native.Nat.{◌-◌, ◌≤◌}
use native.Mathlib.Omega.{arith}
use lib.ListN.{length}
use Rattle.framing.specs.declared.Gathered.TheVariants.{Datagram, Cancelled, Stray}
use Rattle.framing.specs.Walk.{walk_from}
use Rattle.framing.proofs.Walks.{walk_full}
use Rattle.listing.specs.Line.{line_of}
use Rattle.listing.proofs.Put.{put_length}
use Rattle.listing.proofs.Walks.{went_gathered, went_heard, ended}
use Rattle.listing.proofs.block.list_block.Goals as goal
use Rattle.listing.proofs.block.list_block.Goals.{in-Some-Datagram, in-Some-Cancelled, in-Some-Stray, in-None+in-Ok-Some, then-loop-left-test+else-out-written-ge512, else-loop-left-test}

pub loop-left-preserved : goal.loop-left-preserved
loop-left-preserved c =
    let v = c.loop-left in
    let g = v.invariant.0 in
    let roomy : 512 ≤ length c.args.out.now - v.written = omega (arith, c.if-out-written-ge512.true, put_length g.put) in
    elim c.match-gather.branch [
      | in-Some-Datagram w ↦
          let step = rw w.in-Some-Datagram.field-0-is at w.in-Some-Datagram.ensures in
          rw (w.p-is, w.tally-p.ensures, w.empty-is, w.used-is)
          (went_gathered g (Datagram _ _) step.1 (v.invariant.1 step.0) roomy (rw (w.used-is, w.bytes-is) at c.put_entry-written.ensures), v.invariant.1)
      | in-Some-Cancelled w ↦
          let step = rw w.in-Some-Cancelled.field-0-is at w.in-Some-Cancelled.ensures in
          rw (w.p-is, w.tally-p-in-Some-Cancelled.ensures, w.empty-is, w.used-is)
          (went_gathered g (Cancelled _) step.1 (v.invariant.1 step.0) roomy (rw w.used-is at c.put_entry-written.ensures), v.invariant.1)
      | in-Some-Stray w ↦
          let step = rw w.in-Some-Stray.field-0-is at w.in-Some-Stray.ensures in
          rw (w.p-is, w.tally-p-in-Some-Stray.ensures, w.empty-is, w.used-is)
          (went_gathered g Stray step.1 (v.invariant.1 step.0) roomy (rw w.used-is at c.put_entry-written.ensures), v.invariant.1)
      | in-None+in-Ok-Some w ↦
          let step = rw w.in-Ok-Some.field-0-is at w.in-Ok-Some.ensures in
          rw (w.p-is, w.empty-is, w.used-is)
          (went_heard g w.in-Ok-Some.t step c.loop-left-test.true roomy (rw (w.used-is, w.bytes-is) at c.put_entry-written.ensures), λ e. (step.handed (ltb-true _ _ e)).1)
    ]

pub returns : goal.returns
unfolding walk_from
returns c =
    let v = c.loop-left in
    let g = v.invariant.0 in
    elim c.loop-left-test.branch [
      | then-loop-left-test+else-out-written-ge512 w ↦
          ended g None _ (walk_full line_of c.args.input.now v.at v.p v.left (length c.args.out.now - v.written) w.loop-left-test.true (omega (arith, w.if-out-written-ge512.false, put_length g.put))) c.listed-2.ensures
      | else-loop-left-test w ↦
          let none : v.left ≡ 0 = omega (arith, w.loop-left-test.false) in
          ended g None _ (rw none) c.listed-2.ensures
    ]

-- `list_block` walks on with what is taken: the text put so far stands before what the walk of the records left gives.
use mathlib.Core.Path.{◌≡◌}
use mathlib.Core.Bool.{true}
use Rattle.listener.specs.State.{empty_listener}
use Rattle.listing.proofs.Walks.{Going}
use Rattle.listing.proofs.block.list_block.Given as goal

abbrev pub invariant-loop-left : goal.invariant-loop-left
invariant-loop-left l = Going l.input l.initial.out l.initial.p l.initial.left l.out l.p l.left l.at l.written × (l.empty ≡ true → l.p.listener ≡ empty_listener)

abbrev pub decreases-loop-left : goal.decreases-loop-left
decreases-loop-left l = l.left

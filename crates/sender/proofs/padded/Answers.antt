-- `padded` copies the bytes into zeros: what is left of the zeros stands behind them.
use Rattle.sender.proofs.State.{into_zeros}
use Rattle.sender.proofs.padded.Goals as goal

pub returns : goal.returns
returns c = rw c.copy_from_slice.ensures.after (into_zeros 18 c.args.bytes.now)

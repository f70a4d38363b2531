-- `without_bytes` hands out the array of zeros, which is the padded empty list.
use mathlib.Core.Path.{refl}
use Rattle.datagram.specs.Padding.{pad_to}
use Rattle.listener.proofs.without_bytes.Goals as goal

pub returns : goal.returns
unfolding pad_to
returns c = refl

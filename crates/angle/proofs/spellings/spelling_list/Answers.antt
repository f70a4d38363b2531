-- `spelling_list` gives the constant list, over the whole of which antt computes that no number is the first fault.
use mathlib.Core.Path.{refl}
use Rattle.angle.specs.Spellings.{first_fault}
use Rattle.angle.proofs.spellings.spelling_list.Goals as goal

pub returns : goal.returns
unfolding first_fault
returns c = refl

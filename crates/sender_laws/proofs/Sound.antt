-- What a sound state says, and that a state moved to a position as its new phase has it is sound again.
use Rattle.std.proofs.Common.{◌≡◌, ℕ, ◌≤◌, ◌<◌, true, length, arith}
use Rattle.std.proofs.lemmas.Grind.{common_steps}
use Rattle.datagram.proofs.Whole.{declares}
use Rattle.sender.specs.declared.Phase.{Phase}
use Rattle.sender.specs.declared.Phase.TheVariants as phase
use Rattle.sender.specs.declared.Sender.{Sender}
use Rattle.sender.specs.State.{sound, length_of, bytes_of, phase_sound}
use Rattle.sender.specs.Step.{moved_to}

pub all_bytes_lem : (s : Sender) → sound s ≡ true → length (bytes_of s) ≡ length_of s
unfolding sound
all_bytes_lem s h = grind (arith, common_steps, declares)

pub wait_fits : (s : Sender) → sound s ≡ true → s.wait ≤ 255
unfolding sound
wait_fits s h = grind (arith, common_steps)

-- the datagram, the wait and the limit are as they were
pub moved : (s : Sender) (p : Phase) (position failures : ℕ) → phase_sound p position (length_of s) failures s.limit ≡ true
    → sound s ≡ true → sound (moved_to s p position failures) ≡ true
unfolding sound
moved s p position failures h e = grind (arith, common_steps)

-- a waiting sender has failed less often than the limit
pub waiting_left : (s : Sender) → sound s ≡ true → s.phase ≡ phase.Waiting → s.failures < s.limit
unfolding sound
waiting_left s h e = grind (arith, common_steps)

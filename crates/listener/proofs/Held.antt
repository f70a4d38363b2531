-- One symbol 0..511, with unfinished bytes held.
use Prim.Native.Nat.{ℕ, ◌+◌, ◌-◌, ◌≤◌, ◌<◌}
use mathlib.Core.Path.{◌≡◌, ◌∙◌}
use mathlib.Core.List.{List}
use native.Mathlib.Omega.{arith}
use borrow.Author.Tests.{le-leb, lt-leb}
use lib.ListN.{length, get_or}
use Rattle.datagram.specs.Whole.{declared}
use Rattle.listener.specs.State.{holding}
use Rattle.listener.specs.Step.{hear_of, step, command_symbol, other_symbol}
use Rattle.listener.proofs.Order.{step_taken}
use Rattle.listener.proofs.Sound.{sound_holding, held_holding}

-- fewer bytes than the second declares
abbrev pub Unfinished : List ℕ → Type 0
Unfinished xs = length xs < declared (get_or xs 1 0)

-- a state that holds unfinished bytes is sound, so the step is taken
steps : (xs : List ℕ) (s : ℕ) → Unfinished xs → s ≤ 511 → hear_of (holding xs) s ≡ step xs s
steps xs s u h = step_taken (holding xs) s h (sound_holding xs (omega arith) u) ∙ rw (held_holding xs (omega arith))

pub on_command : (xs : List ℕ) (c : ℕ) → Unfinished xs → c < 256 → hear_of (holding xs) (256 + c) ≡ command_symbol xs c
unfolding step
on_command xs c u h =
    let back : 256 + c - 256 ≡ c = omega arith in
    steps xs (256 + c) u (omega arith) ∙ rw (le-leb 256 (256 + c) (omega arith), back)

pub on_other : (xs : List ℕ) (s : ℕ) → Unfinished xs → s < 256 → hear_of (holding xs) s ≡ other_symbol xs s
unfolding step
on_other xs s u h = steps xs s u (omega arith) ∙ rw (lt-leb 256 s h)

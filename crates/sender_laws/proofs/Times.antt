-- The time since the last activity at each side of the wrap of the clock, and at a clock set back.
use Prim.Native.Nat.{ℕ, ◌-◌, ◌≤◌, ◌<◌}
use native.Mathlib.Omega.{arith}
use mathlib.Core.Path.{◌≡◌, refl}
use mathlib.Core.Bool.{true}
use borrow.Author.Tests.{le-leb}
use Rattle.sender.specs.declared.Phase.TheVariants as phase
use Rattle.sender.specs.declared.Sender.{Sender}
use Rattle.sender.specs.declared.Answer.TheVariants.{Send}
use Rattle.sender.specs.State.{sound, symbol_at}
use Rattle.sender.specs.Step.{outcome, moved_to, elapsed, polled}
use Rattle.sender_laws.proofs.Sound.{wait_fits}

pub past_the_wrap : elapsed 5 4294967290 ≡ 11
past_the_wrap = refl

pub before_the_wrap : elapsed 4294967295 4294967285 ≡ 10
before_the_wrap = refl

pub at_the_wrap : elapsed 0 4294967295 ≡ 1
at_the_wrap = refl

pub at_once : elapsed 4294967295 4294967295 ≡ 0
at_once = refl

pub set_back : elapsed 100 200 ≡ 4294967196
set_back = refl

-- a clock set back, by at most 2^32 - 255, gives at least the longest wait
pub set_back_long : (time last : ℕ) → time < last → last - time ≤ 4294967041 → 255 ≤ elapsed time last
set_back_long time last h k = omega arith

-- so a sound sender that waits starts
pub set_back_starts : (s : Sender) (time last : ℕ) → sound s ≡ true → time < last → last - time ≤ 4294967041
    → polled phase.Waiting s (elapsed time last) ≡ outcome (Send (symbol_at s 0)) (moved_to s phase.Awaiting 0 s.failures)
set_back_starts s time last h l k =
    let fits = wait_fits s h in
    let long = set_back_long time last l k in
    rw (le-leb s.wait (elapsed time last) (omega arith))

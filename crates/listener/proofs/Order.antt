-- The order of a call: a symbol above 511 is refused whatever the state is, then a state that is not sound; else the step is taken.
use Prim.Native.Nat.{ℕ, ◌≤◌, ◌<◌}
use mathlib.Core.Path.{◌≡◌, refl}
use mathlib.Core.Bool.{Bool, true, false}
use borrow.Author.Tests.{lt-ltb, le-ltb}
use Rattle.datagram.specs.Refusals.{symbol_above, not_sound}
use Rattle.listener.specs.declared.Listener.{Listener}
use Rattle.listener.specs.State.{sound, held_bytes}
use Rattle.listener.specs.Step.{hear_of, step, refused_by}

above_in : (l : Listener) (symbol : ℕ) (b : Bool) → sound l ≡ b → 511 < symbol → hear_of l symbol ≡ refused_by symbol_above l
unfolding hear_of
above_in l symbol true s h = simp (s, lt-ltb 511 symbol h) refl
above_in l symbol false s h = simp (s, lt-ltb 511 symbol h) refl

pub refused_above : (l : Listener) (symbol : ℕ) → 511 < symbol → hear_of l symbol ≡ refused_by symbol_above l
refused_above l symbol h = above_in l symbol (sound l) refl h

pub refused_unsound : (l : Listener) (symbol : ℕ) → symbol ≤ 511 → sound l ≡ false → hear_of l symbol ≡ refused_by not_sound l
unfolding hear_of
refused_unsound l symbol h s = rw (le-ltb 511 symbol h, s)

pub step_taken : (l : Listener) (symbol : ℕ) → symbol ≤ 511 → sound l ≡ true → hear_of l symbol ≡ step (held_bytes l) symbol
unfolding hear_of
step_taken l symbol h s = rw (le-ltb 511 symbol h, s)

-- What one call does: the sender stays as it is and sends nothing, or it makes one of the five moves of a sound sender.
use Prim.Native.Nat.{ℕ, ◌+◌, ◌-◌}
use mathlib.Core.Path.{◌≡◌, refl}
use mathlib.Core.Bool.{Bool, true, false, cond}
use mathlib.Core.List.{List, ◌∷◌}
use borrow.Author.Tests.{eqb-true, eqb-false}
use lib.Dec.{leb, ltb, eqb}
use Rattle.datagram.specs.Refusals.{symbol_above, not_sound}
use Rattle.sender.specs.declared.Phase.{Phase}
use Rattle.sender.specs.declared.Phase.TheVariants as phase
use Rattle.sender.specs.declared.Sender.{Sender}
use Rattle.sender.specs.declared.Answer.{Answer}
use Rattle.sender.specs.declared.Answer.TheVariants.{Wait, Send, Listening, Done, GaveUp, WaitingAgain, Ignored, Refused}
use Rattle.sender.specs.declared.Outcome.{Outcome}
use Rattle.sender.specs.State.{sound, length_of, symbol_at}
use Rattle.sender.specs.Step.{outcome, moved_to, elapsed, polled, poll_of, heard_right, heard_wrong, echoed, echo_of}
use Rattle.sender_laws.specs.Run.{Call, poll, echo, called, with_sent, echoes}

pub data Move (s : Sender) (c : Call) : Outcome → Type 0 where
  -- an awaiting sender stays only where the call is no echo of a symbol
  stays : (answer : Answer) → ((later : List ℕ) → with_sent answer later ≡ later)
      → (sound s ≡ true → s.phase ≡ phase.Awaiting → (cs : List Call) → echoes (c ∷ cs) ≡ echoes cs)
      → Move s c (outcome answer s)
  starts : sound s ≡ true → s.phase ≡ phase.Waiting
      → Move s c (outcome (Send (symbol_at s 0)) (moved_to s phase.Awaiting 0 s.failures))
  goes_on : sound s ≡ true → s.phase ≡ phase.Awaiting → (s.position + 1 ≡ length_of s → ⊥)
      → Move s c (outcome (Send (symbol_at s (s.position + 1))) (moved_to s phase.Awaiting (s.position + 1) s.failures))
  finishes : sound s ≡ true → s.phase ≡ phase.Awaiting → s.position + 1 ≡ length_of s
      → Move s c (outcome Done (moved_to s phase.Done (s.position + 1) s.failures))
  waits_again : sound s ≡ true → s.phase ≡ phase.Awaiting → (s.failures + 1 ≡ s.limit → ⊥)
      → Move s c (outcome WaitingAgain (moved_to s phase.Waiting 0 (s.failures + 1)))
  gives_up : sound s ≡ true → s.phase ≡ phase.Awaiting → s.failures + 1 ≡ s.limit
      → Move s c (outcome GaveUp (moved_to s phase.GaveUp 0 (s.failures + 1)))

module _ (s : Sender) (time last : ℕ) where
  poll_waiting : (over : Bool) → sound s ≡ true → s.phase ≡ phase.Waiting
      → Move s (poll time last)
      (cond over (outcome (Send (symbol_at s 0)) (moved_to s phase.Awaiting 0 s.failures)) (outcome (Wait (s.wait - elapsed time last)) s))
  poll_waiting true h e = starts h e
  poll_waiting false h e = stays (Wait _) (λ later. refl) (λ h e cs. refl)

  poll_phase : (p : Phase) → sound s ≡ true → s.phase ≡ p → Move s (poll time last) (polled p s (elapsed time last))
  poll_phase phase.Waiting h e = poll_waiting (leb s.wait (elapsed time last)) h e
  poll_phase phase.Awaiting h e = stays Listening (λ later. refl) (λ h e cs. refl)
  poll_phase phase.Done h e = stays Done (λ later. refl) (λ h e cs. refl)
  poll_phase phase.GaveUp h e = stays GaveUp (λ later. refl) (λ h e cs. refl)

  poll_moves : (b : Bool) → sound s ≡ b
      → Move s (poll time last) (cond b (polled s.phase s (elapsed time last)) (outcome (Refused not_sound) s))
  poll_moves true h = poll_phase s.phase h refl
  poll_moves false h = stays (Refused not_sound) (λ later. refl) (λ h e cs. refl)

module _ (s : Sender) (symbol : ℕ) where
  heard_right_lem : (last : Bool) → eqb (s.position + 1) (length_of s) ≡ last → sound s ≡ true → s.phase ≡ phase.Awaiting
      → Move s (echo symbol)
      (cond last (outcome Done (moved_to s phase.Done (s.position + 1) s.failures))
      (outcome (Send (symbol_at s (s.position + 1))) (moved_to s phase.Awaiting (s.position + 1) s.failures)))
  heard_right_lem true t h e = finishes h e (eqb-true _ _ t)
  heard_right_lem false t h e = goes_on h e (eqb-false _ _ t)

  heard_wrong_lem : (last : Bool) → eqb (s.failures + 1) s.limit ≡ last → sound s ≡ true → s.phase ≡ phase.Awaiting
      → Move s (echo symbol)
      (cond last (outcome GaveUp (moved_to s phase.GaveUp 0 (s.failures + 1)))
      (outcome WaitingAgain (moved_to s phase.Waiting 0 (s.failures + 1))))
  heard_wrong_lem true t h e = gives_up h e (eqb-true _ _ t)
  heard_wrong_lem false t h e = waits_again h e (eqb-false _ _ t)

  echo_awaited : (right : Bool) → sound s ≡ true → s.phase ≡ phase.Awaiting
      → Move s (echo symbol) (cond right (heard_right s) (heard_wrong s))
  echo_awaited true h e = heard_right_lem (eqb (s.position + 1) (length_of s)) refl h e
  echo_awaited false h e = heard_wrong_lem (eqb (s.failures + 1) s.limit) refl h e

  echo_phase : (p : Phase) → sound s ≡ true → s.phase ≡ p → Move s (echo symbol) (echoed p s symbol)
  echo_phase phase.Waiting h e = stays Ignored (λ later. refl) (λ also f cs. cc)
  echo_phase phase.Awaiting h e = echo_awaited (eqb symbol (symbol_at s s.position)) h e
  echo_phase phase.Done h e = stays Ignored (λ later. refl) (λ also f cs. cc)
  echo_phase phase.GaveUp h e = stays Ignored (λ later. refl) (λ also f cs. cc)

  echo_moves : (b : Bool) → sound s ≡ b
      → Move s (echo symbol) (cond b (echoed s.phase s symbol) (outcome (Refused not_sound) s))
  echo_moves true h = echo_phase s.phase h refl
  echo_moves false h = stays (Refused not_sound) (λ later. refl) (λ also f cs. cc)

echo_any : (s : Sender) (symbol : ℕ) (above : Bool) → ltb 511 symbol ≡ above
    → Move s (echo symbol)
    (cond above (outcome (Refused symbol_above) s) (cond (sound s) (echoed s.phase s symbol) (outcome (Refused not_sound) s)))
echo_any s symbol true t = stays (Refused symbol_above) (λ later. refl) (λ h e cs. rw t)
echo_any s symbol false t = echo_moves s symbol (sound s) refl

pub move : (s : Sender) (c : Call) → Move s c (called s c)
unfolding poll_of echo_of
move s (poll time last) = poll_moves s time last (sound s) refl
move s (echo symbol) = echo_any s symbol (ltb 511 symbol) refl

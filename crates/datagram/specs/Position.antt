-- Numbers stored in a lent buffer from the position that the caller names: all of them, or none where there is no room
-- (rules 6.2).
use Rattle.std.specs.Prelude.{ℕ, ◌+◌, ◌-◌, ◌&&◌, cond, List, ◌++◌, leb, length, take, drop, Result, Ok, Err}
use Rattle.datagram.specs.Refusals.{no_room}
use Rattle.datagram.specs.Front.{at_front}
use Rattle.datagram.specs.declared.Refusal.{Refusal}

-- the answer, and what the lent numbers are afterwards
pub record Outcome : Type 0 where
  pub answer : Result ℕ Refusal
  pub buffer : List ℕ

abbrev pub outcome : Result ℕ Refusal → List ℕ → Outcome
outcome answer buffer = record { answer = answer; buffer = buffer }

-- this outcome, or refusal 8 where the position is past the end or fewer than n numbers remain from it on
abbrev pub given_room : ℕ → List ℕ → ℕ → Outcome → Outcome
given_room n buffer at stored =
    cond (leb at (length buffer) && leb n (length buffer - at)) stored (outcome (Err no_room) buffer)

-- these n numbers from the position on
abbrev pub stored_at : ℕ → List ℕ → List ℕ → ℕ → Outcome
stored_at n xs buffer at = given_room n buffer at (outcome (Ok n) (take at buffer ++ (xs ++ drop (at + n) buffer)))

-- the same at the front of the lent part
abbrev pub stored_front : ℕ → List ℕ → List ℕ → Outcome
stored_front n xs part = at_front n xs part (λ k. outcome (Ok k)) (outcome (Err no_room))

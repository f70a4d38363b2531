-- One symbol heard, with the listener's state in 18 lent bytes (rules 11.2, 11.3).
use Rattle.std.specs.Prelude.{ℕ, ◌<◌, ◌≡◌, cond, List, ◌∷◌, ◌++◌, leb, ltb, eqb, ℤ, pos, length, get_or, set, drop, Result, Ok, Err}
use Rattle.datagram.specs.declared.Refusal.{Refusal}
use Rattle.datagram.specs.Refusals.{symbol_above, not_sound, no_room}
use Rattle.listener.specs.declared.Listener.{Listener}
use Rattle.listener.specs.declared.Heard.{Heard}
use Rattle.listener.specs.declared.Answer.{Answer}
use Rattle.listener.specs.declared.Answer.TheVariants as answer
use Rattle.listener.specs.Step.{hear_of}
use Rattle.seatalk.specs.Returned.{code_of}

-- what the call returns, and what the lent state and result hold afterwards
pub record Returned : Type 0 where
  pub code : ℤ
  pub state : List ℕ
  pub result : List ℕ

abbrev pub returned : ℤ → List ℕ → List ℕ → Returned
returned code state result = record { code = code; state = state; result = result }

-- a refusal leaves both as they were
abbrev pub refused : Refusal → List ℕ → List ℕ → Returned
refused r state result = returned (code_of r) state result

-- a state's bytes: the number held, then 17 bytes
abbrev pub state_of : Listener → List ℕ
state_of l = l.held ∷ l.bytes

abbrev pub listener_of : List ℕ → Listener
listener_of state = record { bytes = drop 1 state; held = get_or state 0 0 }

-- the listener that answer 3 leaves: the lent state with one more byte and the number held
pub record Longer (byte : ℕ) (l : Listener) (state : List ℕ) : Type 0 where
  pub few : l.held < 18
  pub bytes : state_of l ≡ set (set state l.held byte) 0 l.held

-- the answers by number (rules 11.2)
abbrev pub number_of : Answer → Result ℕ Refusal
number_of answer.Opened = Ok 0
number_of answer.Cancelled = Ok 1
number_of answer.Stray = Ok 2
number_of answer.Kept = Ok 3
number_of answer.HandedOut = Ok 4
number_of (answer.Refused r) = Err r

-- a result's bytes: the answer, the number of bytes handed out, and these bytes with zeros past them
abbrev pub result_of : ℕ → Heard → List ℕ
result_of number h = number ∷ h.count ∷ h.bytes

-- the next state and 20 bytes of result, or the refusal; 8 comes last
abbrev pub answered : Result ℕ Refusal → Heard → List ℕ → List ℕ → Returned
answered (Err r) h state result = refused r state result
answered (Ok n) h state result =
    cond (leb 20 (length result))
    (returned (pos 20) (state_of h.listener) (result_of n h ++ drop 20 result))
    (refused no_room state result)

-- the listener's call; 1 comes before 2, which a state of another length than 18 gets too
unfoldable pub hear_call : List ℕ → ℕ → List ℕ → Returned
hear_call state symbol result =
    cond (ltb 511 symbol) (refused symbol_above state result)
    (cond (eqb (length state) 18)
    (answered (number_of (hear_of (listener_of state) symbol).answer) (hear_of (listener_of state) symbol) state result)
    (refused not_sound state result))

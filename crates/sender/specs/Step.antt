-- What an offer, a poll and an echo do (rules 7.2, 7.4, 7.5).
use Rattle.std.specs.Prelude.{ℕ, ◌+◌, ◌-◌, ◌%◌, ◌^◌, cond, ◌&&◌, List, [], ◌==◌, nat_le, nat_lt, Ok, Err}
use Rattle.datagram.specs.declared.Refusal.{Refusal}
use Rattle.datagram.specs.Refusals.{symbol_above, not_sound, not_whole, bad_wait_or_limit}
use Rattle.datagram.specs.Whole.{whole}
use Rattle.datagram.specs.Padding.{pad_to}
use Rattle.sender.specs.declared.Phase.{Phase}
use Rattle.sender.specs.declared.Phase.TheVariants as phase
use Rattle.sender.specs.declared.Sender.{Sender}
use Rattle.sender.specs.declared.Answer.{Answer}
use Rattle.sender.specs.declared.Answer.TheVariants.{Wait, Send, Listening, Done, GaveUp, WaitingAgain, Ignored, Refused}
use Rattle.sender.specs.declared.Outcome.{Outcome}
use Rattle.sender.specs.declared.Offered.{Offered}
use Rattle.sender.specs.State.{sound, length_of, symbol_at}

-- the wait that 0 stands for
abbrev pub default_wait : ℕ
default_wait = 10

-- the all-zero sender, which is not sound
abbrev pub zero_sender : Sender
zero_sender = record { phase = phase.Waiting; datagram = pad_to 18 []; position = 0; wait = 0; limit = 0; failures = 0 }

abbrev pub refused_offer : Refusal → Offered
refused_offer r = record { verdict = Err r; sender = zero_sender }

abbrev pub wait_of : ℕ → ℕ
wait_of wait = cond (wait == 0) default_wait wait

-- a sender that waits for its first attempt
abbrev pub offered : List ℕ → ℕ → ℕ → Sender
offered bytes wait limit =
    record { phase = phase.Waiting; datagram = pad_to 18 bytes; position = 0; wait = wait; limit = limit; failures = 0 }

-- refusal 3, then 9
unfoldable pub offer_of : List ℕ → ℕ → ℕ → Offered
offer_of bytes wait limit =
    cond (whole bytes)
    (cond ((nat_le 10 (wait_of wait) && nat_le (wait_of wait) 255) && (nat_le 1 limit && nat_le limit 50))
    (record { verdict = Ok tt; sender = offered bytes (wait_of wait) limit })
    (refused_offer bad_wait_or_limit))
    (refused_offer not_whole)

abbrev pub outcome : Answer → Sender → Outcome
outcome answer s = record { answer = answer; sender = s }

-- the sender in another phase, at another position, with other failures
abbrev pub moved_to : Sender → Phase → ℕ → ℕ → Sender
moved_to s phase position failures =
    record { phase = phase; datagram = s.datagram; position = position; wait = s.wait; limit = s.limit; failures = failures }

-- the time now minus last activity, modulo 2^32 (rules 7.1)
abbrev pub elapsed : ℕ → ℕ → ℕ
elapsed time last = (time + 2 ^ 32 - last) % 2 ^ 32

-- a poll by the phase: only a waiting sender whose wait is over changes
abbrev pub polled : Phase → Sender → ℕ → Outcome
polled phase.Waiting s silence =
    cond (nat_le s.wait silence) (outcome (Send (symbol_at s 0)) (moved_to s phase.Awaiting 0 s.failures))
    (outcome (Wait (s.wait - silence)) s)
polled phase.Awaiting s silence = outcome Listening s
polled phase.Done s silence = outcome Done s
polled phase.GaveUp s silence = outcome GaveUp s

-- refusal 2, or the poll
unfoldable pub poll_of : Sender → ℕ → ℕ → Outcome
poll_of s time last = cond (sound s) (polled s.phase s (elapsed time last)) (outcome (Refused not_sound) s)

-- the awaited symbol was heard: the next is sent, or the datagram is done
abbrev pub heard_right : Sender → Outcome
heard_right s =
    cond (s.position + 1 == length_of s) (outcome Done (moved_to s phase.Done (s.position + 1) s.failures))
    (outcome (Send (symbol_at s (s.position + 1))) (moved_to s phase.Awaiting (s.position + 1) s.failures))

-- another symbol was heard: a failure; the whole datagram waits to be sent again, or the limit is reached
abbrev pub heard_wrong : Sender → Outcome
heard_wrong s =
    cond (s.failures + 1 == s.limit) (outcome GaveUp (moved_to s phase.GaveUp 0 (s.failures + 1)))
    (outcome WaitingAgain (moved_to s phase.Waiting 0 (s.failures + 1)))

abbrev pub echoed : Phase → Sender → ℕ → Outcome
echoed phase.Waiting s symbol = outcome Ignored s
echoed phase.Awaiting s symbol = cond (symbol == symbol_at s s.position) (heard_right s) (heard_wrong s)
echoed phase.Done s symbol = outcome Ignored s
echoed phase.GaveUp s symbol = outcome Ignored s

-- refusal 1, then 2, or the echo
unfoldable pub echo_of : Sender → ℕ → Outcome
echo_of s symbol =
    cond (nat_lt 511 symbol) (outcome (Refused symbol_above) s)
    (cond (sound s) (echoed s.phase s symbol) (outcome (Refused not_sound) s))

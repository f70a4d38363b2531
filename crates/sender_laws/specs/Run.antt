-- Lists of calls of a sender, each in the state that the call before it returned.
use Rattle.std.specs.Prelude.{ℕ, suc, ◌+◌, ◌-◌, Bool, true, false, ◌||◌, cond, List, [], ◌∷◌, leb, ltb}
use Rattle.sender.specs.declared.Phase.{Phase}
use Rattle.sender.specs.declared.Phase.TheVariants as phase
use Rattle.sender.specs.declared.Sender.{Sender}
use Rattle.sender.specs.declared.Answer.{Answer}
use Rattle.sender.specs.declared.Answer.TheVariants.{Wait, Send, Listening, Done, GaveUp, WaitingAgain, Ignored, Refused}
use Rattle.sender.specs.declared.Outcome.{Outcome}
use Rattle.sender.specs.Step.{poll_of, echo_of}

-- a poll with its two times, or an echo
pub data Call : Type 0 where
  poll : ℕ → ℕ → Call
  echo : ℕ → Call

abbrev pub called : Sender → Call → Outcome
called s (poll time last) = poll_of s time last
called s (echo symbol) = echo_of s symbol

abbrev pub answers : Sender → List Call → List Answer
answers s [] = []
answers s (c ∷ cs) = (called s c).answer ∷ answers (called s c).sender cs

abbrev pub after : Sender → List Call → Sender
after s [] = s
after s (c ∷ cs) = after (called s c).sender cs

-- what an offer fixes: the datagram, the wait and the limit
pub record Terms : Type 0 where
  pub datagram : List ℕ
  pub wait : ℕ
  pub limit : ℕ

abbrev pub terms_of : Sender → Terms
terms_of s = record { datagram = s.datagram; wait = s.wait; limit = s.limit }

-- the symbols sent, in order
abbrev pub with_sent : Answer → List ℕ → List ℕ
with_sent (Wait left) later = later
with_sent (Send symbol) later = symbol ∷ later
with_sent Listening later = later
with_sent Done later = later
with_sent GaveUp later = later
with_sent WaitingAgain later = later
with_sent Ignored later = later
with_sent (Refused r) later = later

abbrev pub sent : List Answer → List ℕ
sent [] = []
sent (a ∷ later) = with_sent a (sent later)

-- how many of these symbols carry the command bit
abbrev pub commands : List ℕ → ℕ
commands [] = 0
commands (s ∷ ss) = cond (leb 256 s) (suc (commands ss)) (commands ss)

-- an answer that ends an awaited run: done, or a failure
abbrev pub ends : Answer → Bool
ends (Wait left) = false
ends (Send symbol) = false
ends Listening = false
ends Done = true
ends GaveUp = true
ends WaitingAgain = true
ends Ignored = false
ends (Refused r) = false

abbrev pub some_ends : List Answer → Bool
some_ends [] = false
some_ends (a ∷ later) = ends a || some_ends later

-- an answer that tells of a failure
abbrev pub fails : Answer → Bool
fails (Wait left) = false
fails (Send symbol) = false
fails Listening = false
fails Done = false
fails GaveUp = true
fails WaitingAgain = true
fails Ignored = false
fails (Refused r) = false

abbrev pub some_fails : List Answer → Bool
some_fails [] = false
some_fails (a ∷ later) = fails a || some_fails later

-- the echoes among the calls that are symbols, 0..511
abbrev pub echoes : List Call → ℕ
echoes [] = 0
echoes (poll time last ∷ cs) = echoes cs
echoes (echo symbol ∷ cs) = cond (ltb 511 symbol) (echoes cs) (suc (echoes cs))

-- how many symbols a sender in this phase has sent since it last waited
abbrev pub sent_by : Phase → ℕ → ℕ → ℕ
sent_by phase.Waiting position size = 0
sent_by phase.Awaiting position size = position + 1
sent_by phase.Done position size = size
sent_by phase.GaveUp position size = 0

-- how many more attempts a sender in this phase can start
abbrev pub starts_left : Phase → ℕ → ℕ → ℕ
starts_left phase.Waiting failures limit = limit - failures
starts_left phase.Awaiting failures limit = limit - failures - 1
starts_left phase.Done failures limit = 0
starts_left phase.GaveUp failures limit = 0

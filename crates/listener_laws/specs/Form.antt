-- The form of what is heard: strays, attempts, messages, and symbols above 511 anywhere (rules 13.3).
use Rattle.std.specs.Prelude.{◌≡◌, List, [], ◌∷◌, ◌++◌, map, ℕ, ◌+◌, ◌<◌, length, Ok}
use Rattle.datagram.specs.Whole.{declared}
use Rattle.message.specs.declared.Message.{Message}
use Rattle.message.specs.Range.{range_of}
use Rattle.message.specs.Spelling.{symbols_of}

-- what the call for a heard symbol must show: nothing handed out, this message's bytes handed out, or refusal 1
pub data Due : Type 0 where
  nothing : Due
  hands : Message → Due
  refusal : Due

-- one heard symbol, with what is due at its call
pub record Call : Type 0 where
  pub symbol : ℕ
  pub due : Due

abbrev pub call : ℕ → Due → Call
call symbol due = record { symbol = symbol; due = due }

-- these symbols, with nothing due at any
abbrev pub quietly : List ℕ → List Call
quietly symbols = map (λ s. call s nothing) symbols

-- symbols without the command bit: strays, or what follows a command symbol
pub data Below : List ℕ → Type 0 where
  none : Below []
  one_more : {s : ℕ} {ss : List ℕ} → s < 256 → Below ss → Below (s ∷ ss)

-- an abandoned attempt: a command symbol alone, or with further symbols, fewer in all than the second declares
pub data Attempt : List ℕ → Type 0 where
  alone : {command : ℕ} → command < 256 → Attempt ((256 + command) ∷ [])
  cut_short : {command second : ℕ} {rest : List ℕ} → command < 256 → second < 256 → Below rest
      → length ((256 + command) ∷ second ∷ rest) < declared second → Attempt ((256 + command) ∷ second ∷ rest)

-- any number of attempts, one after the other
pub data Attempts : List ℕ → Type 0 where
  no_attempt : Attempts []
  attempt_then : {first later : List ℕ} → Attempt first → Attempts later → Attempts (first ++ later)

-- the symbols of a message: at its last one its bytes are handed out, and nothing before
abbrev pub sounding : Message → List ℕ → List Call
sounding m [] = []
sounding m (s ∷ []) = call s (hands m) ∷ []
sounding m (s ∷ t ∷ ss) = call s nothing ∷ sounding m (t ∷ ss)

-- for each message in turn: its symbols as the writer gives them, then strays, then attempts
pub data Messages : List Message → List Call → Type 0 where
  no_message : Messages [] []
  message_then : {m : Message} {ms : List Message} {strays attempts : List ℕ} {rest : List Call} → range_of m ≡ Ok tt
      → Below strays → Attempts attempts → Messages ms rest
      → Messages (m ∷ ms) (sounding m (symbols_of m) ++ (quietly strays ++ (quietly attempts ++ rest)))

-- strays, then attempts, then the messages
pub data Sounded : List Message → List Call → Type 0 where
  sounded : {ms : List Message} {strays attempts : List ℕ} {rest : List Call} → Below strays → Attempts attempts
      → Messages ms rest → Sounded ms (quietly strays ++ (quietly attempts ++ rest))

-- symbols above 511 put in anywhere; each is due refusal 1
pub data Mixed : List Call → List Call → Type 0 where
  mixed_end : Mixed [] []
  as_it_is : {c : Call} {cs ds : List Call} → Mixed cs ds → Mixed (c ∷ cs) (c ∷ ds)
  above : {s : ℕ} {cs ds : List Call} → 511 < s → Mixed cs ds → Mixed cs (call s refusal ∷ ds)

-- this list of messages is heard as these calls
pub record HeardAs (ms : List Message) (calls : List Call) : Type 0 where
  pub clean : List Call
  pub form : Sounded ms clean
  pub mixed : Mixed clean calls

abbrev pub symbols_in : List Call → List ℕ
symbols_in calls = map (λ c. c.symbol) calls

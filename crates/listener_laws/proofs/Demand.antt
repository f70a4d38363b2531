-- Demand 3 from the laws of demand 2: the framing shows what is due, what is due is handed out, and that reads back.
use Rattle.std.specs.Prelude.{Result, Ok}
use Prim.Native.Nat.{ℕ, ◌+◌}
use mathlib.Core.Path.{◌≡◌, refl, sym, ap, ◌∙◌}
use mathlib.Core.Bool.{true, false≢true}
use mathlib.Core.List.{List, [], ◌∷◌, ◌++◌, map}
use native.Mathlib.Omega.{arith}
use lib.ListN.{take}
use Rattle.datagram.specs.Whole.{whole, symbols}
use Rattle.datagram.proofs.Padding.{take_pad}
use Rattle.datagram.specs.declared.Refusal.{Refusal}
use Rattle.listener.specs.declared.Answer.{Answer}
use Rattle.listener.specs.declared.Answer.TheVariants.{Opened, Cancelled, Stray, Kept, HandedOut, Refused}
use Rattle.listener.specs.declared.Heard.{Heard}
use Rattle.listener.specs.State.{empty_listener}
use Rattle.listener.specs.Step.{hear_of}
use Rattle.message.specs.declared.Message.{Message}
use Rattle.message.specs.Reading.{read_of}
use Rattle.message.specs.Spelling.{bytes_of}
use Rattle.writer.specs.Writing.{write_of}
use Rattle.roundtrip_laws.proofs.RoundTrip.{round_trip}
use Rattle.listener_laws.specs.Form.{Due, nothing, hands, refusal, Call, quietly, sounding, symbols_in, Messages, no_message, message_then, Sounded, sounded, Mixed, mixed_end, as_it_is, above, HeardAs}
use Rattle.listener_laws.specs.Demand.{run, passes, Shows, AllShow, with_bytes, handed_out, Demand3}
use Rattle.listener_laws.proofs.Framing.{ShownFrom, ShownAnyway, strays_then, attempts_then, datagram_then, put_in}

-- a message due, before these
abbrev with_due : Due → List Message → List Message
with_due nothing ms = ms
with_due (hands m) ms = m ∷ ms
with_due refusal ms = ms

-- the messages due at these calls
abbrev dues : List Call → List Message
dues [] = []
dues (c ∷ cs) = with_due c.due (dues cs)

passed : (a : Answer) (bytes : List ℕ) (later : List (List ℕ)) → passes a ≡ true → with_bytes a bytes later ≡ later
passed Opened bytes later p = refl
passed Cancelled bytes later p = refl
passed Stray bytes later p = refl
passed Kept bytes later p = refl
passed HandedOut bytes later p = absurd (false≢true p)
passed (Refused r) bytes later p = absurd (false≢true p)

one_due : (d : Due) (h : Heard) (ms : List Message) → Shows d h
    → with_bytes h.answer (take h.count h.bytes) (map bytes_of ms) ≡ map bytes_of (with_due d ms)
one_due nothing h ms s = passed h.answer _ (map bytes_of ms) s.0
one_due (hands m) h ms s = rw (s.handed, s.their_number, s.its_bytes, take_pad)
one_due refusal h ms s = rw s.0

-- calls that show what is due hand out the bytes of the messages due
all_due : (calls : List Call) (hs : List Heard) → AllShow calls hs → handed_out hs ≡ map bytes_of (dues calls)
all_due [] [] s = refl
all_due [] (h ∷ hs) s = absurd s
all_due (c ∷ cs) [] s = absurd s
all_due (c ∷ cs) (h ∷ hs) s = rw (all_due cs hs s.1) (one_due c.due h (dues cs) s.0)

quietly_due : (ss : List ℕ) (rest : List Call) → dues (quietly ss ++ rest) ≡ dues rest
quietly_due [] rest = refl
quietly_due (s ∷ ss) rest = quietly_due ss rest

last_due : (m : Message) (s : ℕ) (ss : List ℕ) (rest : List Call) → dues (sounding m (s ∷ ss) ++ rest) ≡ m ∷ dues rest
last_due m s [] rest = refl
last_due m s (t ∷ ss) rest = last_due m t ss rest

sounding_due : (m : Message) (bs : List ℕ) (rest : List Call) → whole bs ≡ true → dues (sounding m (symbols bs) ++ rest) ≡ m ∷ dues rest
unfolding whole
sounding_due m [] rest w = absurd (false≢true w)
sounding_due m (b ∷ bs) rest w = last_due m (256 + b) bs rest

put_in_due : {cs ds : List Call} → Mixed cs ds → dues ds ≡ dues cs
put_in_due mixed_end = refl
put_in_due (as_it_is {c = c} m) = ap (with_due c.due) (put_in_due m)
put_in_due (above h m) = put_in_due m

same_messages : (ms ns : List Message) → map {B = Result Message Refusal} Ok ms ≡ map Ok ns → ms ≡ ns
same_messages [] [] e = refl
same_messages [] (n ∷ ns) e = cc
same_messages (m ∷ ms) [] e = cc
same_messages (m ∷ ms) (n ∷ ns) e =
    let later : map {B = Result Message Refusal} Ok ms ≡ map Ok ns = cc in
    let same = same_messages ms ns later in
    cc

messages_shown : {ms : List Message} {calls : List Call} → Messages ms calls → ShownAnyway calls
messages_shown no_message = λ xs u. tt
messages_shown (message_then {m = m} {strays = ss} {attempts = ts} {rest = rest} i b a more) =
    let later = quietly ts ++ rest in
    datagram_then m (quietly ss ++ later) (round_trip.whole_datagram m) (round_trip.all_bytes_lem m)
    (strays_then later b (attempts_then rest a (messages_shown more) [] (omega arith)))

messages_due : {ms : List Message} {calls : List Call} → Messages ms calls → dues calls ≡ ms
messages_due no_message = refl
messages_due (message_then {m = m} {strays = ss} {attempts = ts} {rest = rest} i b a more) =
    let later = quietly ts ++ rest in
    rw (sounding_due m (bytes_of m) (quietly ss ++ later) (round_trip.whole_datagram m), quietly_due ss later, quietly_due ts rest, messages_due more)

messages_read : {ms : List Message} {calls : List Call} → Messages ms calls → map read_of (map bytes_of ms) ≡ map Ok ms
messages_read no_message = refl
messages_read (message_then {m = m} i b a more) = rw (round_trip.reads_back_lem m i, messages_read more)

sounded_shown : {ms : List Message} {calls : List Call} → Sounded ms calls → ShownFrom [] calls
sounded_shown (sounded {strays = ss} {attempts = ts} {rest = rest} b a more) =
    strays_then (quietly ts ++ rest) b (attempts_then rest a (messages_shown more) [] (omega arith))

sounded_read : {ms : List Message} {calls : List Call} → Sounded ms calls → map read_of (map bytes_of (dues calls)) ≡ map Ok ms
sounded_read (sounded {strays = ss} {attempts = ts} {rest = rest} b a more) =
    rw (quietly_due ss (quietly ts ++ rest), quietly_due ts rest, messages_due more) (messages_read more)

heard_shown : (ms : List Message) (calls : List Call) → HeardAs ms calls → AllShow calls (run hear_of empty_listener (symbols_in calls))
heard_shown ms calls heard = put_in heard.mixed empty_listener (sounded_shown heard.form)

heard_read : (ms : List Message) (calls : List Call) → HeardAs ms calls
    → map read_of (handed_out (run hear_of empty_listener (symbols_in calls))) ≡ map Ok ms
heard_read ms calls heard =
    rw (all_due calls (run hear_of empty_listener (symbols_in calls)) (heard_shown ms calls heard), put_in_due heard.mixed)
    (sounded_read heard.form)

heard_once : (ms ns : List Message) (calls others : List Call) → HeardAs ms calls → HeardAs ns others
    → symbols_in calls ≡ symbols_in others → ms ≡ ns
heard_once ms ns calls others heard also e =
    same_messages ms ns (sym (heard_read ms calls heard) ∙ rw e (heard_read ns others also))

pub demand3 : Demand3 hear_of read_of write_of
demand3 = record { written = round_trip.written; accepted = round_trip.accepted; shown = heard_shown; read_as = heard_read; one_list = heard_once }

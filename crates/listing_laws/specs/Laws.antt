-- What holds of the listing of a recording, in whatever pieces it is read (rules 13.7).
use Rattle.std.specs.Prelude.{◌≡◌, Bool, cond, List, [], ◌∷◌, ◌++◌, ℕ, zero, suc, ◌+◌, ◌≤◌, ◌<◌, ◌%◌, ◌^◌, length, Result, Option, Ok, Err, Some, None}
use Rattle.listener.specs.declared.Answer.{Answer}
use Rattle.listener.specs.declared.Heard.{Heard}
use Rattle.listener.specs.declared.Listener.{Listener}
use Rattle.listener.specs.Answers.{is_handed, is_cancelled, is_stray}
use Rattle.listener.specs.Step.{hear_of}
use Rattle.recording.specs.declared.Record.{Record}
use Rattle.recording.specs.Record.{record_of}
use Rattle.progress.specs.declared.Progress.{Progress}
use Rattle.progress.specs.Progress.{begun, cut_off, placed_from}
use Rattle.framing.specs.Walk.{line_room, walk_all}
use Rattle.listing.specs.Line.{line_of, header_line}
use Rattle.listing.specs.Walk.{end_text, listing_of}
use Rattle.stream.specs.Pass.{Passed, pass_of}
use Rattle.datagram.specs.declared.Refusal.{Refusal}

-- the answers that a listener gives to so many records from an offset on, each in the state that the one before it left
abbrev pub answers_to : Result (Option Record) Refusal → Listener → (Heard → List Answer) → List Answer
answers_to (Ok (Some r)) l later = (hear_of l r.symbol).answer ∷ later (hear_of l r.symbol)
answers_to (Ok None) l later = []
answers_to (Err r) l later = []

unfoldable pub answers_in : ℕ → List ℕ → ℕ → Listener → List Answer
answers_in zero s at l = []
answers_in (suc k) s at l = answers_to (record_of s at) l (λ h. answers_in k s (at + 8) h.listener)

-- how many answers pass a test
abbrev pub how_many : (Answer → Bool) → List Answer → ℕ
how_many test [] = 0
how_many test (a ∷ later) = cond (test a) (suc (how_many test later)) (how_many test later)

-- what happens to the bytes that are held: more are read behind them, or they are listed with so much room for text
pub data Event : Type 0 where
  reads : List ℕ → Event
  lists : ℕ → Event

-- the text of what happens, up to the last lines: at a refused record, or at the end of the recording with these bytes held
abbrev pub onward : Option Refusal → Progress → List ℕ → List ℕ
onward None p later = later
onward (Some r) p later = end_text p (Some r)

abbrev pub text_of : List Event → Progress → ℕ → List ℕ → List ℕ
text_of [] p base held = end_text p (placed_from base (cut_off (record_of held 0)))
text_of (reads piece ∷ events) p base held = text_of events p base (held ++ piece)
text_of (lists room ∷ events) p base held =
    let k : Passed = pass_of p base held room in
    k.text ++ onward k.stop k.progress (text_of events k.progress k.base k.rest)

-- the bytes that are held at the end; none where a record was refused
abbrev pub unless_stopped : Option Refusal → List ℕ → List ℕ
unless_stopped None held = held
unless_stopped (Some r) held = []

abbrev pub held_after : List Event → Progress → ℕ → List ℕ → List ℕ
held_after [] p base held = held
held_after (reads piece ∷ events) p base held = held_after events p base (held ++ piece)
held_after (lists room ∷ events) p base held =
    let k : Passed = pass_of p base held room in
    unless_stopped k.stop (held_after events k.progress k.base k.rest)

-- fewer bytes than a record has
abbrev pub NoRecord : List ℕ → Type 0
NoRecord held = length held < 8

-- everything that is read
abbrev pub recording_of : List Event → List ℕ
recording_of [] = []
recording_of (reads piece ∷ events) = piece ++ recording_of events
recording_of (lists room ∷ events) = recording_of events

pub record ListingLaws : Type 0 where
  -- in whatever pieces a recording is read, and whatever room each pass has: if no whole record is left at the end, the text is
  -- the listing of the whole
  pub any_reads : (events : List Event) → length (recording_of events) < 2 ^ 64 → NoRecord (held_after events begun 0 [])
      → header_line ++ text_of events begun 0 [] ≡ listing_of (recording_of events)
  -- a pass over a whole record, with room for a line, takes one or more, or stops: who lists while one is held comes to an end
  pub pass_moves : (p : Progress) (base : ℕ) (s : List ℕ) (room : ℕ) → line_room ≤ room → 8 ≤ length s
      → (pass_of p base s room).stop ≡ None → length (pass_of p base s room).rest < length s
  -- the counts are the numbers of such answers, on 64 bits
  pub handed_counted : (n : ℕ) (s : List ℕ) (at : ℕ) (p : Progress)
      → (walk_all line_of n s at p).progress.handed % 2 ^ 64 ≡ (p.handed + how_many is_handed (answers_in n s at p.listener)) % 2 ^ 64
  pub cancelled_counted : (n : ℕ) (s : List ℕ) (at : ℕ) (p : Progress)
      → (walk_all line_of n s at p).progress.cancelled % 2 ^ 64 ≡ (p.cancelled + how_many is_cancelled (answers_in n s at p.listener)) % 2 ^ 64
  pub stray_counted : (n : ℕ) (s : List ℕ) (at : ℕ) (p : Progress)
      → (walk_all line_of n s at p).progress.stray % 2 ^ 64 ≡ (p.stray + how_many is_stray (answers_in n s at p.listener)) % 2 ^ 64

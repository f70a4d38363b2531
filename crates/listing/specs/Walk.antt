-- The text of a whole recording, and of a block (rules 10.1).
use Rattle.std.specs.Prelude.{ℕ, ◌≡◌, List, [], ◌++◌, length, Option, Some, None}
use Rattle.std.proofs.lemmas.List.Edits.{sets}
use Rattle.recording.specs.Record.{record_of}
use Rattle.listing.specs.declared.Listed.{Listed}
use Rattle.progress.specs.declared.Progress.{Progress}
use Rattle.progress.specs.Progress.{begun, cut_off}
use Rattle.framing.specs.Walk.{Walk, walk_all, records_in}
use Rattle.listing.specs.Line.{line_of, header_line, stopped_line, count_line}
use Rattle.datagram.specs.declared.Refusal.{Refusal}

-- the lines after the last datagram: why the walk stopped, if it did, and the counts
abbrev pub stop_text : Option Refusal → List ℕ
stop_text None = []
stop_text (Some r) = stopped_line r.number r.place

abbrev pub end_text : Progress → Option Refusal → List ℕ
end_text p stop = stop_text stop ++ count_line p.handed p.cancelled p.stray

-- what a block's listing gives, and the text at the front of the lent buffer
pub record Block (w : Walk) (before after : List ℕ) (r : Listed) : Type 0 where
  pub listed : r ≡ record { progress = w.progress; used = w.reached; written = length w.text; stop = w.stop }
  pub stored : after ≡ sets before 0 w.text

-- why the listing of a whole recording ends
abbrev pub end_of : Option Refusal → List ℕ → ℕ → Option Refusal
end_of None s at = cut_off (record_of s at)
end_of (Some r) s at = Some r

-- the listing of a recording: the header, a line for each datagram handed out, why it stopped, and the counts
unfoldable pub listing_of : List ℕ → List ℕ
listing_of s =
    let w : Walk = walk_all line_of (records_in s) s 0 begun in
    header_line ++ (w.text ++ end_text w.progress (end_of w.stop s w.reached))

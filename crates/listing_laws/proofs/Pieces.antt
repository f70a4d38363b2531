-- A recording read in any pieces and listed in any passes: the text is that of the whole.
use Rattle.std.specs.Prelude.{Result, Option, Ok, Err, Some, None}
use mathlib.Core.Path.{◌≡◌, refl, sym, ap, ◌∙◌}
use mathlib.Core.List.{List, [], ◌∷◌, ◌++◌, append_assoc, append-nil}
use Prim.Native.Nat.{ℕ, ◌+◌, ◌/◌, ◌%◌, ◌^◌, ◌≤◌, ◌<◌}
use native.Mathlib.Nat.{add_assoc, zero-add}
use native.Mathlib.Omega.{arith}
use lib.ListN.{length, drop, length-append, length-drop}
use lib.Seq.{drop-append-le}
use Rattle.datagram.specs.declared.Refusal.{Refusal}
use Rattle.recording.specs.declared.Record.{Record}
use Rattle.recording.specs.Record.{record_of}
use Rattle.recording.proofs.Records.{record_from, without, refused_at}
use Rattle.progress.specs.declared.Progress.{Progress}
use Rattle.progress.specs.Progress.{begun, cut_off, placed_from}
use Rattle.framing.specs.Walk.{Walk, walk_from, walk_all, records_in}
use Rattle.framing.proofs.Reach.{reached}
use Rattle.listing.specs.Line.{line_of, header_line}
use Rattle.listing.specs.Walk.{end_of, end_text, listing_of}
use Rattle.stream.specs.Pass.{pass_of}
use Rattle.listing_laws.specs.Laws.{Event, reads, lists, onward, text_of, unless_stopped, held_after, NoRecord, recording_of}
use Rattle.listing_laws.proofs.Cuts.{stop_from, then_the_rest, already_stopped}

-- the walk of a recording's whole records
abbrev walked : Progress → List ℕ → Walk
walked p s = walk_all line_of (records_in s) s 0 p

-- its text and last lines, with offsets counted from so many bytes earlier
abbrev text_from : Progress → ℕ → List ℕ → List ℕ
text_from p base s = (walked p s).text ++ end_text (walked p s).progress (stop_from base (end_of (walked p s).stop s (walked p s).reached))

cut_from : (base : ℕ) (r : Result (Option Record) Refusal) → cut_off (record_from base r) ≡ stop_from base (cut_off r)
cut_from base (Ok (Some r)) = refl
cut_from base (Ok None) = refl
cut_from base (Err r) = refl

stop_twice : (base k : ℕ) (t : Option Refusal) → stop_from base (stop_from k t) ≡ stop_from (base + k) t
stop_twice base k None = refl
stop_twice base k (Some r) = rw add_assoc

-- why the whole ends, told from where the first part was left
end_from : (base k : ℕ) (s : List ℕ) (t : Option Refusal) (at : ℕ) → k ≤ length s
    → stop_from base (end_of (stop_from k t) s (k + at)) ≡ stop_from (base + k) (end_of t (drop k s) at)
end_from base k s None at h =
    rw (without k s at h, cut_from k (record_of (drop k s) at)) (stop_twice base k (cut_off (record_of (drop k s) at)))
end_from base k s (Some r) at h = stop_twice base k (Some r)

-- a place below 2^64 is the same on 64 bits
low : (n : ℕ) → n < 2 ^ 64 → n % 2 ^ 64 ≡ n
low n h = omega arith

placed_low : (base : ℕ) (r : Refusal) → base + r.place < 2 ^ 64 → placed_from base (Some r) ≡ stop_from base (Some r)
placed_low base r h = rw (low (base + r.place) h)

-- at the end, the place of a record cut short is that of the bytes held
cut_low : (base : ℕ) (s : List ℕ) (r : Result (Option Record) Refusal) → record_of s 0 ≡ r → base < 2 ^ 64 → placed_from base (cut_off r) ≡ stop_from base (cut_off r)
cut_low base s (Ok (Some r)) e h = refl
cut_low base s (Ok None) e h = refl
cut_low base s (Err r) e h = placed_low base r (omega (arith, refused_at s 0 r e))

-- one pass, if the rest of the text is that of what it left with the bytes to come
one_pass : (p : Progress) (base : ℕ) (s more : List ℕ) (room : ℕ) (t : Option Refusal) (later : List ℕ)
    → let w = walk_from line_of (records_in s) s 0 p room in
    w.stop ≡ t → base + length s < 2 ^ 64
    → (t ≡ None → later ≡ text_from w.progress (base + w.reached) (drop w.reached s ++ more))
    → w.text ++ onward (placed_from base t) w.progress later ≡ text_from p base (s ++ more)
one_pass p base s more room (Some r) later e small so =
    let w = walk_from line_of (records_in s) s 0 p room in
    let far = reached line_of (records_in s) s 0 p room in
    let place : base + r.place < 2 ^ 64 = omega (arith, far.within, far.there r e) in
    rw (already_stopped s more p room r e, e, low (base + r.place) place)
one_pass p base s more room None later e small so =
    let w = walk_from line_of (records_in s) s 0 p room in
    let k = w.reached in
    let v = walked w.progress (drop k s ++ more) in
    let within : k ≤ length s = omega (arith, (reached line_of (records_in s) s 0 p room).within) in
    let end : stop_from base (end_of (stop_from k v.stop) (s ++ more) (k + v.reached)) ≡ stop_from (base + k) (end_of v.stop (drop k s ++ more) v.reached) =
    end_from base k (s ++ more) v.stop v.reached (rw length-append (omega arith)) ∙ rw (drop-append-le k s more within) in
    ap (λ (text : List ℕ). w.text ++ text) (so refl)
    ∙ sym (append_assoc w.text v.text _)
    ∙ ap (λ (x : Option Refusal). (w.text ++ v.text) ++ end_text v.progress x) (sym end)
    ∙ sym (ap (λ (x : Walk). x.text ++ end_text x.progress (stop_from base (end_of x.stop (s ++ more) x.reached))) (then_the_rest s more p room e))

-- what is held at the end of a pass that stopped, and of one that did not
not_stopped : (t : Option Refusal) (held : List ℕ) (base : ℕ) → t ≡ None → NoRecord (unless_stopped (placed_from base t) held) → NoRecord held
not_stopped None held base e h = h
not_stopped (Some r) held base e h = let z : ◌≡◌ {A = ℕ} 0 1 = cc in absurd (omega arith)

reads_from : (events : List Event) (p : Progress) (base : ℕ) (held : List ℕ) → base + length held + length (recording_of events) < 2 ^ 64
    → NoRecord (held_after events p base held) → text_of events p base held ≡ text_from p base (held ++ recording_of events)
unfolding walk_all pass_of
reads_from [] p base held small h =
    let none : length held / 8 ≡ 0 = omega arith in
    rw (append-nil, none) (rw (cut_low base held (record_of held 0) refl (omega arith)) refl)
reads_from (reads piece ∷ events) p base held small h =
    reads_from events p base (held ++ piece) (rw length-append (omega (arith, length-append piece (recording_of events)))) h
    ∙ rw append_assoc
reads_from (lists room ∷ events) p base held small h =
    let w = walk_from line_of (records_in held) held 0 p room in
    let k = w.reached in
    let far : k ≤ length held = omega (arith, (reached line_of (records_in held) held 0 p room).within) in
    let on : (base + k) % 2 ^ 64 ≡ base + k = low (base + k) (omega arith) in
    one_pass p base held (recording_of events) room w.stop (text_of events w.progress ((base + k) % 2 ^ 64) (drop k held)) refl (omega arith)
    (λ e. rw on
    (reads_from events w.progress (base + k) (drop k held) (simp length-drop (omega arith))
    (rw on at (not_stopped w.stop (held_after events w.progress ((base + k) % 2 ^ 64) (drop k held)) base e h))))

stop_from_start : (t : Option Refusal) → stop_from 0 t ≡ t
stop_from_start None = refl
stop_from_start (Some r) = rw zero-add

pub any_reads : (events : List Event) → length (recording_of events) < 2 ^ 64 → NoRecord (held_after events begun 0 [])
    → header_line ++ text_of events begun 0 [] ≡ listing_of (recording_of events)
unfolding listing_of
any_reads events small h =
    let w = walked begun (recording_of events) in
    ap (λ (text : List ℕ). header_line ++ text)
    (reads_from events begun 0 [] (omega (arith, small)) h
    ∙ ap (λ (t : Option Refusal). w.text ++ end_text w.progress t) (stop_from_start (end_of w.stop (recording_of events) w.reached)))

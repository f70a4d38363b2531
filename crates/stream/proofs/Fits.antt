-- A pass puts no more text than there is room for, and so do the first line and the last ones.
use Rattle.std.specs.Prelude.{Result, Option, Ok, Err, None, Some}
use Rattle.std.proofs.Common.{◌≡◌, ℕ, zero, suc, ◌+◌, ◌-◌, ◌≤◌, Bool, true, false, cond, leb, List, [], ◌++◌, length, take, drop, refl, ap, arith, length-append, ne_eqb, leb-true}
use Rattle.datagram.proofs.Whole.{declares}
use Rattle.listener.specs.declared.Heard.{Heard}
use Rattle.listener.specs.declared.Listener.{Listener}
use Rattle.listener.specs.Answers.{is_handed}
use Rattle.listener.specs.Step.{hear_of}
use Rattle.listener.proofs.Handed.{hands}
use Rattle.recording.specs.declared.Record.{Record}
use Rattle.recording.specs.Record.{record_of}
use Rattle.progress.specs.declared.Progress.{Progress}
use Rattle.progress.specs.Progress.{advanced}
use Rattle.framing.specs.Steps.{entry}
use Rattle.framing.specs.Walk.{Walk, walk, behind, entry_of, line_room, walk_record, walk_from}
use Rattle.listing.specs.Text.{Stored, stored_text}
use Rattle.listing.specs.Line.{line_of}
use Rattle.listing.proofs.Short.{entry_short}
use Rattle.datagram.specs.declared.Refusal.{Refusal}

-- what is handed out has a line that fits
module _ (time symbol : ℕ) (l : Listener) where
  abbrev h : Heard
  h = hear_of l symbol

  abbrev out : List ℕ
  out = take h.count h.bytes

  line_fits : (b : Bool) → is_handed h.answer ≡ b → length (cond b (line_of time out) []) ≤ 512
  line_fits true e =
      let some = declares out ((hands l symbol).0 e).1 in
      let own : entry line_of time out ≡ line_of time out = rw (ne_eqb (length out) 0 (λ z. omega (arith, some))) in
      rw own at (entry_short time out (omega (arith, some)))
  line_fits false e = omega arith

-- one record, if the text behind it fits in the room that is left
record_fits : (at room : ℕ) (p : Progress) (rest : ℕ → Heard → Walk) (r : Result (Option Record) Refusal) → 512 ≤ room
    → ((time : ℕ) (h : Heard) → length (rest time h).text ≤ room - length (entry_of line_of time h))
    → length (walk_record r p at (λ time h. behind (entry_of line_of time h) (rest time h))).text ≤ room
record_fits at room p rest (Ok (Some r)) roomy later =
    let h = hear_of p.listener r.symbol in
    omega (arith, length-append (entry_of line_of r.time h) (rest r.time h).text, later r.time h, line_fits r.time r.symbol p.listener (is_handed h.answer) refl)
record_fits at room p rest (Ok None) roomy later = omega arith
record_fits at room p rest (Err r) roomy later = omega arith

with_room : (at room : ℕ) (p : Progress) (w : Walk) (b : Bool) → leb line_room room ≡ b → (512 ≤ room → length w.text ≤ room)
    → length (cond b w (walk [] p at None)).text ≤ room
with_room at room p w true e fits = fits (leb-true line_room room e)
with_room at room p w false e fits = omega arith

pub text_fits : (n : ℕ) (s : List ℕ) (at : ℕ) (p : Progress) (room : ℕ) → length (walk_from line_of n s at p room).text ≤ room
unfolding walk_from
text_fits zero s at p room = omega arith
text_fits (suc n) s at p room =
    with_room at room p _ (leb line_room room) refl
    (λ roomy. record_fits at room p (λ time h. walk_from line_of n s (at + 8) (advanced p h) (room - length (entry_of line_of time h))) (record_of s at) roomy
    (λ time h. text_fits n s (at + 8) (advanced p h) (room - length (entry_of line_of time h))))

-- what is stored at the front of a buffer is no longer than the buffer
pub stored_fits : (text buffer : List ℕ) {after : List ℕ} {n : ℕ}
    → ◌≡◌ {A = Stored} (record { buffer = after; count = n }) (stored_text text buffer) → n ≤ length after
stored_fits text buffer {after} {n} e = go (leb 512 (length buffer)) refl
  where
    go : (b : Bool) → leb 512 (length buffer) ≡ b → n ≤ length after
    go true t =
        let p : ◌≡◌ {A = Stored} (record { buffer = after; count = n }) (record { buffer = text ++ drop (length text) buffer; count = length text }) = rw t at e in
        omega (arith, ap (λ (q : Stored). q.count) p, simp length-append at (ap (λ (q : Stored). length q.buffer) p))
    go false t =
        let p : ◌≡◌ {A = Stored} (record { buffer = after; count = n }) (record { buffer = buffer; count = 0 }) = rw t at e in
        omega (arith, ap (λ (q : Stored). q.count) p)

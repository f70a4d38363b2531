-- What holds while a block is being listed.
use Rattle.std.specs.Prelude.{Option}
use mathlib.Core.Path.{◌≡◌, ap, ◌∙◌}
use mathlib.Core.List.{List, [], ◌++◌, append_assoc, append-nil}
use Prim.Native.Nat.{ℕ, ◌+◌, ◌-◌, ◌*◌, ◌/◌, ◌≤◌, ◌<◌}
use native.Mathlib.Nat.{sub-zero, zero-add}
use native.Mathlib.Omega.{arith}
use lib.ListN.{length, take, length-take}
use Rattle.listener.specs.State.{empty_listener}
use Rattle.listing.specs.declared.Listed.{Listed}
use Rattle.progress.specs.declared.Progress.{Progress}
use Rattle.framing.specs.declared.Gathered.{Gathered}
use Rattle.framing.specs.declared.HeardRecord.{HeardRecord}
use Rattle.framing.specs.Walk.{walk, behind, walk_from, records_from}
use Rattle.framing.specs.Steps.{GatherStep, RecordGoes, entry, used_of, count_of, time_of, tally_of}
use Rattle.listing.specs.Line.{line_of}
use Rattle.listing.specs.Text.{Put}
use Rattle.listing.specs.Walk.{Block}
use Rattle.listing.proofs.Put.{put_then, put_nothing}
use Rattle.listing.proofs.Short.{entry_short}
use Rattle.datagram.specs.declared.Refusal.{Refusal}

-- so far: this text was put, and the walk goes on behind it with the records left
pub record Going (s before : List ℕ) (begin : Progress) (n : ℕ) (out : List ℕ) (p : Progress) (left at written : ℕ) : Type 0 where
  pub text : List ℕ
  pub put : Put before 0 text out written
  pub rest : walk_from line_of n s 0 begin (length before) ≡ behind text (walk_from line_of left s at p (length before - written))
  pub within : at ≤ length s
  pub all : left ≡ records_from s at
  pub fits : written ≤ length before

pub started : (s before : List ℕ) (begin : Progress) → Going s before begin (length s / 8) before begin (length s / 8) 0 0
started s before begin =
    record { text = []; put = put_nothing before 0; rest = rw sub-zero; within = omega arith; all = omega arith; fits = omega arith }

-- the line of at most 18 bytes fits in the room for one
entry_fits : (time : ℕ) (bytes : List ℕ) {count : ℕ} → count ≤ 18 → length (entry line_of time (take count bytes)) ≤ 512
entry_fits time bytes {count} most = entry_short time (take count bytes) (omega (arith, length-take count bytes, most))

module _ {s before out : List ℕ} {begin p : Progress} {n left at written : ℕ} (g : Going s before begin n out p left at written) where
  pub ended : (stop : Option Refusal) (r : Listed) → walk_from line_of left s at p (length before - written) ≡ walk [] p at stop
      → r ≡ record { progress = p; used = at; written = written; stop = stop } → Block (walk_from line_of n s 0 begin (length before)) before out r
  ended stop r e q =
      let w : walk_from line_of n s 0 begin (length before) ≡ walk g.text p at stop =
      g.rest ∙ ap (behind g.text) e ∙ ap (λ (t : List ℕ). walk t p at stop) (append-nil g.text) in
      rw w
      (record {
        listed = q ∙ ap (λ (k : ℕ). record { progress = p; used = at; written = k; stop = stop }) (g.put.moved ∙ zero-add (length g.text));
        stored = g.put.stored;
      })

  -- so many records more, behind their text
  pub went : (used : ℕ) (text : List ℕ) (q : Progress) (later : List ℕ) (written' : ℕ)
      → walk_from line_of left s at p (length before - written) ≡ behind text (walk_from line_of (left - used) s (at + 8 * used) q (length before - written - length text))
      → used ≤ left → length text ≤ 512 → 512 ≤ length before - written → Put out written text later written'
      → Going s before begin n later q (left - used) (at + 8 * used) written'
  went used text q later written' e fits short roomy put =
      let room : length before - written - length text ≡ length before - written' = omega (arith, put.moved) in
      let w : walk_from line_of left s at p (length before - written) ≡ behind text (walk_from line_of (left - used) s (at + 8 * used) q (length before - written')) =
      e ∙ rw room in
      record {
        text = g.text ++ text;
        put = put_then g.put put;
        rest = g.rest ∙ ap (behind g.text) w ∙ rw append_assoc;
        within = omega (arith, g.within, g.all);
        all = omega (arith, g.within, g.all);
        fits = omega (arith, put.moved, g.fits);
      }

  -- records that an empty listener takes at once, behind their line
  pub went_gathered : {bytes later : List ℕ} {written' : ℕ} (t : Gathered) → GatherStep s at bytes t → p.listener ≡ empty_listener → 512 ≤ length before - written
      → Put out written (entry line_of (time_of t) (take (count_of t) bytes)) later written'
      → Going s before begin n later (tally_of p t) (left - used_of t) (at + 8 * used_of t) written'
  went_gathered {bytes} {later} {written'} t step empty roomy put =
      let goes = step.goes line_of p (length before - written) empty roomy in
      went (used_of t) _ (tally_of p t) later written' (rw (← g.all) at goes) (rw g.all step.fits) (entry_fits _ _ step.most) roomy put

  -- a record that was heard, behind its line
  pub went_heard : {later : List ℕ} {written' : ℕ} (t : HeardRecord) → RecordGoes s at p t → 0 < left → 512 ≤ length before - written
      → Put out written (entry line_of t.time (take t.count t.bytes)) later written'
      → Going s before begin n later t.progress (left - 1) (at + 8) written'
  went_heard {later} {written'} t step some roomy put =
      went 1 _ t.progress later written' (step.goes line_of left (length before - written) some roomy) (omega arith) (entry_fits _ _ step.most) roomy put

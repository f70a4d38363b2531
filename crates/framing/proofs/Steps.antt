-- What is taken at a time is what the walk takes.
use Rattle.std.specs.Prelude.{Ok, Some}
use mathlib.Core.Path.{◌≡◌, refl, sym, ap, ◌∙◌}
use mathlib.Core.Bool.{Bool, true, false, cond}
use mathlib.Core.List.{List, []}
use Prim.Native.Nat.{ℕ, ◌+◌, ◌-◌, ◌*◌, ◌≤◌, ◌<◌}
use native.Mathlib.Nat.{sub-zero}
use native.Mathlib.Omega.{arith}
use borrow.Author.Tests.{ne_eqb}
use lib.ListN.{length, get_or, take}
use lib.Seq.{get_or-take, length-take-le}
use Rattle.datagram.specs.Whole.{declared}
use Rattle.datagram.proofs.Whole.{declares}
use Rattle.listener.specs.State.{empty_listener}
use Rattle.listener.specs.Step.{hear_of}
use Rattle.listener.specs.declared.Listener.{Listener}
use Rattle.listener.specs.declared.Heard.{Heard}
use Rattle.recording.specs.declared.Record.{Record}
use Rattle.recording.specs.Record.{record_of, time_at, byte_of, heard}
use Rattle.progress.specs.declared.Progress.{Progress}
use Rattle.framing.specs.declared.Gathered.{Gathered}
use Rattle.framing.specs.declared.HeardRecord.{HeardRecord}
use Rattle.listener.specs.Answers.{is_handed}
use Rattle.progress.specs.Progress.{advanced}
use Rattle.framing.specs.Walk.{Line, walk_from, records_from}
use Rattle.framing.specs.declared.Gathered.TheVariants.{Datagram, Cancelled, Stray}
use Rattle.framing.specs.Steps.{GatherStep, RecordGoes, entry, used_of, count_of, tally_of}
use Rattle.framing.proofs.Ahead.{walk_stray, walk_cancelled, walk_ahead}
use Rattle.framing.proofs.Gathering.{Gathering}
use Rattle.listener.proofs.Handed.{hands, declared_whole}
use Rattle.framing.proofs.Walks.{walk_heard}

module _ {s bytes : List ℕ} {at : ℕ} where
  -- records that put no text
  silently : (g : Gathered) → count_of g ≡ 0 → 0 < used_of g → used_of g ≤ records_from s at
      → ((line : Line) (p : Progress) (room : ℕ) → p.listener ≡ empty_listener → 512 ≤ room
      → walk_from line (records_from s at) s at p room ≡ walk_from line (records_from s at - used_of g) s (at + 8 * used_of g) (tally_of p g) room)
      → GatherStep s at bytes g
  silently g none some fits goes =
      record {
        some = some;
        fits = fits;
        most = omega (arith, none);
        handed = λ h. absurd (omega (arith, none));
        goes = λ line p room empty roomy. goes line p room empty roomy ∙ rw (none, sub-zero);
      }

  pub gathered_stray : (b : ℕ) → 0 < records_from s at → b < 256 → record_of s at ≡ heard (time_at s at) b → GatherStep s at bytes Stray
  gathered_stray b some low heard =
      silently Stray refl (omega arith) (omega arith)
      (λ line p room empty roomy. walk_stray line s at (records_from s at) room some roomy (time_at s at) p b low heard empty)

module _ {s bytes : List ℕ} {at m n : ℕ} (a : Gathering s at bytes m) (size : n ≡ declared (byte_of s at 14)) (fits : n ≤ records_from s at) where
  pub gathered_cancelled : (b : ℕ) → 0 < m → m < n → b < 256 → record_of s (at + 8 * m) ≡ heard (time_at s (at + 8 * m)) (256 + b)
      → GatherStep s at bytes (Cancelled m)
  gathered_cancelled b some below low heard =
      silently (Cancelled m) refl some (omega arith)
      (λ line p room empty roomy. walk_cancelled s at m n bytes a size (omega arith) line p (records_from s at) room (omega arith) roomy empty some below (omega arith) (time_at s (at + 8 * m)) b low heard)

  pub gathered_whole : m ≡ n → (time : ℕ) → time ≡ time_at s (at + 8 * (n - 1))
      → GatherStep s at bytes (Datagram n time)
  gathered_whole all time last =
      let long : length (take n bytes) ≡ n = length-take-le n bytes (omega (arith, size, a.long)) in
      let second : get_or bytes 1 0 ≡ byte_of s at 14 = (a.follows 1 (omega arith) (omega (arith, size))).0 ∙ ap (λ (k : ℕ). get_or s k 0) (omega arith) in
      let declares : length (take n bytes) ≡ declared (get_or (take n bytes) 1 0) =
      long ∙ size ∙ ap declared (sym (get_or-take n bytes 1 0 (omega (arith, size)) ∙ second)) in
      rw last
      (record {
        some = omega (arith, size);
        fits = fits;
        most = omega (arith, size);
        handed = λ h. declared_whole (take n bytes) declares;
        goes = λ line p room empty roomy.
            walk_ahead s at m n bytes a size (omega arith) line p (records_from s at) room (omega arith) roomy empty all
            ∙ rw (ne_eqb (length (take n bytes)) 0 (λ z. omega (arith, size, long)));
      })

-- what was handed out has bytes, and what was not has none
module _ (time symbol : ℕ) (l : Listener) where
  abbrev h : Heard
  h = hear_of l symbol

  abbrev out : List ℕ
  out = take h.count h.bytes

  entry_taken : (line : Line) (b : Bool) → is_handed h.answer ≡ b → cond b (line time out) [] ≡ entry line time out
  entry_taken line true e = rw (ne_eqb (length out) 0 (λ z. omega (arith, declares out ((hands l symbol).0 e).1)))
  entry_taken line false e = rw ((hands l symbol).1 e)

  most_heard : (b : Bool) → is_handed h.answer ≡ b → h.count ≤ 18
  most_heard true e = ((hands l symbol).0 e).0
  most_heard false e = omega (arith, (hands l symbol).1 e)

  is_handed_lem : (b : Bool) → is_handed h.answer ≡ b → 0 < h.count → is_handed h.answer ≡ true
  is_handed_lem true e p = e
  is_handed_lem false e p = absurd (omega (arith, (hands l symbol).1 e))

module _ {s : List ℕ} {at : ℕ} {p : Progress} where
  pub record_heard : (r : Record) (t : HeardRecord) → record_of s at ≡ Ok (Some r)
      → t.progress ≡ advanced p (hear_of p.listener r.symbol) → t.time ≡ r.time
      → t.count ≡ (hear_of p.listener r.symbol).count → t.bytes ≡ (hear_of p.listener r.symbol).bytes
      → length t.bytes ≡ 18 → RecordGoes s at p t
  record_heard r t heard progress at-time count bytes long =
      let l = p.listener in
      record {
        long = long;
        most = rw count (most_heard r.time r.symbol l _ refl);
        handed = rw (count, bytes, progress) (λ some. let w = (hands l r.symbol).0 (is_handed_lem r.time r.symbol l _ refl some) in (w.1, w.2));
        goes = λ line left room some roomy.
            rw (count, bytes, progress, at-time)
            (walk_heard line s at p left room some r.time r.symbol roomy heard ∙ rw (entry_taken r.time r.symbol l line _ refl));
      }

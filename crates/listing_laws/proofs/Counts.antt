-- A counter on 64 bits that goes up by one at each answer of a sort counts those answers.
use Rattle.std.specs.Prelude.{Result, Option, Ok, Err, None, Some}
use Prim.Native.Nat.{ℕ, zero, suc, ◌+◌, ◌%◌, ◌^◌}
use native.Mathlib.Omega.{arith}
use mathlib.Core.Path.{◌≡◌, refl}
use mathlib.Core.Bool.{Bool, true, false, cond}
use mathlib.Core.List.{List}
use Rattle.listener.specs.declared.Answer.{Answer}
use Rattle.listener.specs.declared.Heard.{Heard}
use Rattle.listener.specs.Step.{hear_of}
use Rattle.recording.specs.declared.Record.{Record}
use Rattle.recording.specs.Record.{record_of}
use Rattle.progress.specs.declared.Progress.{Progress}
use Rattle.progress.specs.Progress.{counted, advanced}
use Rattle.listing.specs.Line.{line_of}
use Rattle.framing.specs.Walk.{Walk, walk_record, behind, entry_of, walk_all}
use Rattle.listing_laws.specs.Laws.{answers_to, answers_in, how_many}
use Rattle.datagram.specs.declared.Refusal.{Refusal}

one_counted : (b : Bool) (n later : ℕ) → (counted b n + later) % 2 ^ 64 ≡ (n + cond b (suc later) later) % 2 ^ 64
one_counted true n later = omega arith
one_counted false n later = refl

module _ (count : Progress → ℕ) (test : Answer → Bool)
    (counts : (p : Progress) (h : Heard) → count (advanced p h) ≡ counted (test h.answer) (count p)) where
  record_counted : (p : Progress) (at : ℕ) (rest : ℕ → Heard → Walk) (later : Heard → List Answer) (r : Result (Option Record) Refusal)
      → ((time : ℕ) (h : Heard)
      → count (rest time h).progress % 2 ^ 64 ≡ (count (advanced p h) + how_many test (later h)) % 2 ^ 64)
      → count (walk_record r p at (λ time h. behind (entry_of line_of time h) (rest time h))).progress % 2 ^ 64
      ≡ (count p + how_many test (answers_to r p.listener later)) % 2 ^ 64
  record_counted p at rest later (Ok (Some r)) e =
      let h = hear_of p.listener r.symbol in
      rw (e r.time h, counts p h) (one_counted (test h.answer) (count p) (how_many test (later h)))
  record_counted p at rest later (Ok None) e = omega arith
  record_counted p at rest later (Err r) e = omega arith

  pub all_counted : (n : ℕ) (s : List ℕ) (at : ℕ) (p : Progress)
      → count (walk_all line_of n s at p).progress % 2 ^ 64 ≡ (count p + how_many test (answers_in n s at p.listener)) % 2 ^ 64
  unfolding walk_all answers_in
  all_counted zero s at p = omega arith
  all_counted (suc n) s at p =
      record_counted p at (λ time h. walk_all line_of n s (at + 8) (advanced p h)) (λ h. answers_in n s (at + 8) h.listener) (record_of s at)
      (λ time h. all_counted n s (at + 8) (advanced p h))

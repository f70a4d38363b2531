-- What the recording writer does at the front of the result is what the call's definition says.
use Rattle.std.specs.Prelude.{Ok, Err}
use mathlib.Core.Path.{◌≡◌, refl, ap, ◌∙◌}
use mathlib.Core.Bool.{Bool, true, false, cond}
use mathlib.Core.List.{List, ◌++◌}
use Prim.Native.Nat.{ℕ, ◌-◌, ◌≤◌}
use native.Mathlib.Omega.{arith}
use borrow.Author.Tests.{le-leb, le-ltb}
use lib.Dec.{leb}
use lib.ListN.{length, drop}
use Rattle.datagram.specs.Position.{Outcome, outcome}
use Rattle.datagram.specs.Refusals.{no_room}
use Rattle.recording.specs.Record.{record_bytes}
use Rattle.recorder.specs.Recording.{record_written}
use Rattle.seatalk.specs.Returned.{Returned, returned, told}
use Rattle.seatalk.specs.Record.{record_call}

-- an outcome as the call returns it
abbrev pub shown : Outcome → Returned
shown o = returned (told o.answer) o.buffer

module _ (time symbol : ℕ) (result : List ℕ) (h : symbol ≤ 511) where
  done : (t : Bool) → leb 8 (length result) ≡ t
      → record_written time symbol result 0 ≡ cond t (outcome (Ok 8) (record_bytes time symbol ++ drop 8 result)) (outcome (Err no_room) result)
  unfolding record_written
  done t e = let all : length result - 0 ≡ length result = omega arith in rw (le-leb symbol 511 h, le-leb 0 (length result) (omega arith), all, e) refl

  pub recorded : shown (record_written time symbol result 0) ≡ record_call time symbol result
  unfolding record_call
  recorded = go (leb 8 (length result)) refl
    where
      go : (t : Bool) → leb 8 (length result) ≡ t → shown (record_written time symbol result 0) ≡ record_call time symbol result
      go true e = rw (le-ltb 511 symbol h, e) (ap shown (done true e))
      go false e = rw (le-ltb 511 symbol h, e) (ap shown (done false e))

  -- it stores eight bytes or none
  pub eight : (n : ℕ) (after : List ℕ) → outcome (Ok n) after ≡ record_written time symbol result 0 → n ≡ 8
  eight n after e = go (leb 8 (length result)) refl
    where
      go : (t : Bool) → leb 8 (length result) ≡ t → n ≡ 8
      go true f = let said : Ok n ≡ Ok 8 = ap (λ (o : Outcome). o.answer) (e ∙ done true f) in cc
      go false f = let said : Ok n ≡ Err no_room = ap (λ (o : Outcome). o.answer) (e ∙ done false f) in let z : ◌≡◌ {A = ℕ} 0 1 = cc in absurd (omega arith)

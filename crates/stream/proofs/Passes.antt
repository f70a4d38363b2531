-- What a caller may count on after a pass: the text fits, and where it did not stop and a whole record was held fewer bytes are.
use Rattle.std.specs.Prelude.{Option, Some, None}
use Rattle.std.proofs.Common.{◌≡◌, ℕ, suc, ◌+◌, ◌-◌, ◌<◌, ◌≤◌, List, length, take, sym, refl, ap, ◌∙◌, arith, length-drop, length-take-le}
use lib.Seq.{length-sets}
use Rattle.progress.specs.declared.Progress.{Progress}
use Rattle.progress.specs.Progress.{placed_from}
use Rattle.framing.specs.Walk.{Walk, line_room, walk_from, records_in}
use Rattle.framing.proofs.Reach.{moves}
use Rattle.listing.specs.Line.{line_of}
use Rattle.stream.specs.declared.Pass as code
use Rattle.stream.specs.Pass.{Filled, pass_of}
use Rattle.stream.proofs.Fits.{text_fits}
use Rattle.datagram.specs.declared.Refusal.{Refusal}

running : (base : ℕ) (t : Option Refusal) → placed_from base t ≡ None → t ≡ None
running base None e = refl
running base (Some r) e = let z : ◌≡◌ {A = ℕ} 0 1 = cc in absurd (omega arith)

module _ (p : Progress) (base n : ℕ) (input₀ out₀ : List ℕ) {input₁ out₁ : List ℕ} {r : code.Pass} (h : n ≤ length input₀)
    (f : Filled (pass_of p base (take n input₀) (length out₀)) input₀ input₁ out₀ out₁ r) where
  abbrev s : List ℕ
  s = take n input₀

  abbrev w : Walk
  w = walk_from line_of (records_in s) s 0 p (length out₀)

  held_is : r.held ≡ n - w.reached
  unfolding pass_of
  held_is =
      ap (λ (q : code.Pass). q.held) f.answered ∙ length-drop w.reached s ∙ ap (λ (k : ℕ). k - w.reached) (length-take-le n input₀ h)

  pub same_input : length input₁ ≡ length input₀
  same_input = ap length f.kept ∙ length-sets input₀ 0 (pass_of p base s (length out₀)).rest

  pub same_out : length out₁ ≡ length out₀
  same_out = ap length f.put ∙ length-sets out₀ 0 (pass_of p base s (length out₀)).text

  pub written_fits : r.written ≤ length out₁
  unfolding pass_of
  written_fits = omega (arith, same_out, ap (λ (q : code.Pass). q.written) f.answered, text_fits (records_in s) s 0 p (length out₀))

  pub held_within : r.held ≤ n
  held_within = omega (arith, held_is)

-- a pass over a whole record, with room for a line, takes one or more, or stops
pub pass_moves : (p : Progress) (base : ℕ) (s : List ℕ) (room : ℕ) → line_room ≤ room → 8 ≤ length s → (pass_of p base s room).stop ≡ None
    → length (pass_of p base s room).rest < length s
unfolding pass_of
pass_moves p base s room roomy some e =
    let w = walk_from line_of (records_in s) s 0 p room in
    let more : records_in s ≡ suc (records_in s - 1) = omega arith in
    let same : walk_from line_of (suc (records_in s - 1)) s 0 p room ≡ w = ap (λ (k : ℕ). walk_from line_of k s 0 p room) (sym more) in
    let over : 0 + 8 ≤ (walk_from line_of (suc (records_in s - 1)) s 0 p room).reached =
    moves line_of (records_in s - 1) s 0 p room roomy (omega arith) (ap (λ (x : Walk). x.stop) same ∙ running base w.stop e) in
    omega (arith, length-drop w.reached s, over, ap (λ (x : Walk). x.reached) same)

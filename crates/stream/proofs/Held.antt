-- A block that was listed, with its offsets in the whole recording, is a pass.
use Rattle.std.proofs.Common.{◌≡◌, ℕ, ◌+◌, ◌-◌, ◌%◌, ◌^◌, ◌≤◌, List, length, take, drop, refl, ap, ◌∙◌, arith, length-drop, length-take-le}
use Rattle.std.specs.List.{copy_within}
use Rattle.std.proofs.lemmas.List.{drop-take}
use Rattle.std.proofs.lemmas.List.Edits.{sets, sets-eq}
use Rattle.progress.specs.declared.Progress.{Progress}
use Rattle.progress.specs.Progress.{placed_from}
use Rattle.framing.specs.Walk.{Walk, walk_from, records_in}
use Rattle.framing.proofs.Reach.{reached}
use Rattle.listing.specs.declared.Listed.{Listed}
use Rattle.listing.specs.Line.{line_of}
use Rattle.listing.specs.Walk.{Block}
use Rattle.stream.specs.declared.Pass as code
use Rattle.stream.specs.Pass.{Filled, pass_of}

-- the bytes from a position on, of the first n, moved to the front
moved_front : (used n : ℕ) (input : List ℕ) → used ≤ n → n ≤ length input → copy_within input used n 0 ≡ sets input 0 (drop used (take n input))
moved_front used n input u h =
    let m = n - used in
    let all : n ≡ used + m = omega arith in
    let cut : drop used (take n input) ≡ take m (drop used input) = ap (λ (k : ℕ). drop used (take k input)) all ∙ drop-take used m input in
    let long : length (take m (drop used input)) ≡ m = length-take-le m (drop used input) (omega (arith, length-drop used input)) in
    rw (cut, sets-eq (take m (drop used input)) input 0 (omega (arith, long)), long) refl

module _ (p : Progress) (n : ℕ) (input out₀ : List ℕ) (h : n ≤ length input) where
  abbrev s : List ℕ
  s = take n input

  abbrev w : Walk
  w = walk_from line_of (records_in s) s 0 p (length out₀)

  long : length s ≡ n
  long = length-take-le n input h

  -- what was used is within the bytes
  pub used_within : {out₁ : List ℕ} {r : Listed} → Block w out₀ out₁ r → r.used ≤ n
  used_within b =
      omega (arith, ap (λ (l : Listed). l.used) b.listed, (reached line_of (records_in s) s 0 p (length out₀)).within, long)

  pub filled : (base : ℕ) {input₁ out₁ : List ℕ} {r : Listed} {q : code.Pass} → Block w out₀ out₁ r
      → input₁ ≡ copy_within input r.used n 0
      → q ≡ record { progress = r.progress; base = (base + r.used) % 2 ^ 64; held = n - r.used; written = r.written; stop = placed_from base r.stop }
      → Filled (pass_of p base s (length out₀)) input input₁ out₀ out₁ q
  unfolding pass_of
  filled base {r = r} b moved e =
      let there : r.used ≡ w.reached = ap (λ (l : Listed). l.used) b.listed in
      let size : length (drop w.reached s) ≡ n - w.reached = length-drop w.reached s ∙ ap (λ (k : ℕ). k - w.reached) long in
      record {
        answered = e ∙ rw (b.listed, size);
        put = b.stored;
        kept = moved ∙ moved_front r.used n input (used_within b) h ∙ rw there;
      }

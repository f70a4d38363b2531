-- One pass over bytes of a recording that are held: the text that it puts, and what it leaves.
use Rattle.std.specs.Prelude.{◌≡◌, ℕ, ◌+◌, ◌%◌, ◌^◌, List, length, drop, Option}
use Rattle.std.proofs.lemmas.List.Edits.{sets}
use Rattle.progress.specs.declared.Progress.{Progress}
use Rattle.progress.specs.Progress.{placed_from}
use Rattle.framing.specs.Walk.{Walk, walk_from, records_in}
use Rattle.listing.specs.Line.{line_of}
use Rattle.stream.specs.declared.Pass as code
use Rattle.datagram.specs.declared.Refusal.{Refusal}

-- the text, the progress, the offset in the whole recording of the first byte that is left, the bytes left, and why it stopped
pub record Passed : Type 0 where
  pub text : List ℕ
  pub progress : Progress
  pub base : ℕ
  pub rest : List ℕ
  pub stop : Option Refusal

-- bytes that begin at an offset of the recording are listed, as long as there is room for a line; offsets are counted on 64 bits
abbrev pub passed : ℕ → List ℕ → Walk → Passed
passed base s w =
    record {
      text = w.text;
      progress = w.progress;
      base = (base + w.reached) % 2 ^ 64;
      rest = drop w.reached s;
      stop = placed_from base w.stop;
    }

unfoldable pub pass_of : Progress → ℕ → List ℕ → ℕ → Passed
pass_of p base s room = passed base s (walk_from line_of (records_in s) s 0 p room)

-- what the call answers; the text is put at the front of the output, and the bytes left at the front of the input
pub record Filled (k : Passed) (input₀ input₁ out₀ out₁ : List ℕ) (r : code.Pass) : Type 0 where
  pub answered : r
      ≡ record {
        progress = k.progress;
        base = k.base;
        held = length k.rest;
        written = length k.text;
        stop = k.stop;
      }
  pub put : out₁ ≡ sets out₀ 0 k.text
  pub kept : input₁ ≡ sets input₀ 0 k.rest

-- A line fits in the room for one.
use mathlib.Core.Bool.{Bool, true, false, cond}
use mathlib.Core.List.{List, [], ◌∷◌, ◌++◌}
use Prim.Native.Nat.{ℕ, ◌≤◌}
use native.Mathlib.Omega.{arith}
use lib.Dec.{eqb}
use lib.ListN.{length, length-append}
use lib.Seq.{take_all}
use Rattle.message.specs.Reading.{read_of}
use Rattle.framing.specs.Steps.{entry}
use Rattle.listing.specs.Text.{decimal, spaced_hex}
use Rattle.listing.specs.Line.{content_of, line_of}
use Rattle.listing.proofs.Decimal.{decimal_most}
use Rattle.listing.proofs.Spaced.{hex_most}
use Rattle.listing.proofs.Lines.{content_most}

line_short : (time : ℕ) (part : List ℕ) → length part ≤ 18 → length (line_of time part) ≤ 512
line_short time part h =
    let content = content_of (read_of part) in
    let hex : length (spaced_hex part) ≤ 54 = rw (take_all 18 part h) at (hex_most 18 part) in
    omega (
      arith,
      length-append (decimal time) (spaced_hex part ++ (content ++ (10 ∷ []))),
      length-append (spaced_hex part) (content ++ (10 ∷ [])),
      length-append content (10 ∷ []),
      decimal_most time,
      content_most (read_of part),
    )

-- a line, or nothing, fits in the room for a line
pub entry_short : (time : ℕ) (bytes : List ℕ) → length bytes ≤ 18 → length (entry line_of time bytes) ≤ 512
entry_short time bytes h = go (eqb (length bytes) 0)
  where
    go : (b : Bool) → length (cond b [] (line_of time bytes)) ≤ 512
    go true = omega arith
    go false = line_short time bytes h

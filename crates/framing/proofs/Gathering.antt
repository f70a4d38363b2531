-- The bytes of a datagram ahead, as they are gathered record by record.
use mathlib.Core.Path.{◌≡◌, refl, ◌∙◌}
use mathlib.Core.Bool.{Bool, true, false}
use mathlib.Core.List.{List}
use Prim.Native.Nat.{ℕ, ◌+◌, ◌*◌, ◌-◌, ◌≤◌, ◌<◌}
use native.Mathlib.Decide.{ℕ_discrete}
use native.Mathlib.Omega.{arith}
use borrow.Author.Tests.{le-leb, ne_eqb}
use mir.Val.{bool_byte}
use lib.ListN.{length, get_or, set, length-set}
use lib.Seq.{get_or-set_same, get_or-set_other}
use Rattle.number.specs.Word.{num}
use Rattle.recording.specs.Record.{record_of, byte_of, time_at, symbol_at, heard}

-- a flag as a byte is its number
flag_byte : (on : Bool) → (bool_byte on ≡ num on) × (num on ≤ 1)
flag_byte true = (refl, omega arith)
flag_byte false = (refl, omega arith)

-- a record with the mark, and a symbol of this byte with the command bit or without it
pub carried : (s : List ℕ) (at : ℕ) (command : Bool) → at + 8 ≤ length s
    → get_or s at 0 ≡ 0x53 → byte_of s at 1 ≡ 0x54 → byte_of s at 6 < 256 → byte_of s at 7 ≡ bool_byte command
    → record_of s at ≡ heard (time_at s at) (256 * num command + byte_of s at 6)
unfolding record_of
carried s at command h first second low high =
    let n = flag_byte command in
    let symbol : symbol_at s at ≡ 256 * num command + byte_of s at 6 = omega (arith, high, n.0) in
    rw (le-leb at (length s) (omega arith), ne_eqb (length s) at (λ e. omega arith), le-leb 8 (length s - at) (omega arith), first, second, symbol, le-leb (256 * num command + byte_of s at 6) 511 (omega (arith, n.1)))

-- a byte without the command bit
pub plain : {b : ℕ} → 256 * 0 + b ≡ b
plain {b} = omega arith

-- the first i records carry these bytes, the first with the command bit
pub record Gathering (s : List ℕ) (at : ℕ) (bytes : List ℕ) (i : ℕ) : Type 0 where
  pub long : length bytes ≡ 18
  pub opens : record_of s at ≡ heard (time_at s at) (256 + get_or bytes 0 0)
  pub first : get_or bytes 0 0 < 256
  pub follows : (j : ℕ) → 0 < j → j < i
      → (get_or bytes j 0 ≡ byte_of s (at + 8 * j) 6) × (get_or bytes j 0 < 256) × (record_of s (at + 8 * j) ≡ heard (time_at s (at + 8 * j)) (get_or bytes j 0))

module _ (s : List ℕ) (at : ℕ) (bytes : List ℕ) where
  pub gathered_one : length bytes ≡ 18 → record_of s at ≡ heard (time_at s at) (256 * 1 + byte_of s at 6) → byte_of s at 6 < 256
      → Gathering s at (set bytes 0 (byte_of s at 6)) 1
  gathered_one long e low =
      let same : get_or (set bytes 0 (byte_of s at 6)) 0 0 ≡ byte_of s at 6 = get_or-set_same bytes 0 (byte_of s at 6) 0 (omega arith) in
      record { long = length-set bytes 0 (byte_of s at 6) ∙ long; opens = rw same e; first = rw same low; follows = λ j l h. absurd (omega arith) }

  pub gathered_more : (i : ℕ) → Gathering s at bytes i → 0 < i → i < 18
      → record_of s (at + 8 * i) ≡ heard (time_at s (at + 8 * i)) (256 * 0 + byte_of s (at + 8 * i) 6) → byte_of s (at + 8 * i) 6 < 256
      → Gathering s at (set bytes i (byte_of s (at + 8 * i) 6)) (i + 1)
  gathered_more i g some below e low =
      let b = byte_of s (at + 8 * i) 6 in
      let first : get_or (set bytes i b) 0 0 ≡ get_or bytes 0 0 = get_or-set_other bytes i 0 b 0 (λ z. omega arith) in
      record {
        long = length-set bytes i b ∙ g.long;
        opens = rw first g.opens;
        first = rw first g.first;
        follows = λ j l h. go j l h (ℕ_discrete j i);
      }
    where
      Follows : ℕ → ℕ → Type 0
      Follows j b =
          (b ≡ byte_of s (at + 8 * j) 6) × (b < 256) × (record_of s (at + 8 * j) ≡ heard (time_at s (at + 8 * j)) b)

      go : (j : ℕ) → 0 < j → j < i + 1 → Dec (j ≡ i) → Follows j (get_or (set bytes i (byte_of s (at + 8 * i) 6)) j 0)
      go j l h (yes q) =
          rw (q, get_or-set_same bytes i (byte_of s (at + 8 * i) 6) 0 (omega (arith, g.long))) (refl, low, rw plain at e)
      go j l h (no d) =
          rw (get_or-set_other bytes i j (byte_of s (at + 8 * i) 6) 0 d) (g.follows j l (omega (arith, d)))

-- Refusal 11 where some bytes are left, but fewer than a record's eight.
use Rattle.std.specs.Prelude.{Err}
use borrow.Author.Tests.{ne_eqb, le-leb, lt-leb}
use mathlib.Core.Path.{◌≡◌}
use mathlib.Core.List.{List}
use Prim.Native.Nat.{ℕ, ◌-◌, ◌≤◌, ◌<◌}
use lib.ListN.{length}
use Rattle.datagram.specs.Refusals.{cut_short}
use Rattle.recording.specs.Record.{record_of}

-- 11 comes before 10, whatever the bytes
pub cut : (s : List ℕ) (at : ℕ) → at ≤ length s → (length s ≡ at → ⊥) → length s - at < 8 → record_of s at ≡ Err (cut_short at)
unfolding record_of
cut s at within inside few = rw (le-leb at (length s) within, ne_eqb (length s) at inside, lt-leb 8 (length s - at) few)

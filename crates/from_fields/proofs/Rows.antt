-- Every command of the table is a byte.
use Rattle.std.specs.Prelude.{None}
use mathlib.Core.Path.{◌≡◌, refl}
use mathlib.Core.Bool.{true, ◌&&◌, and-eq-true_iff, Bool}
use mathlib.Core.List.{List, [], ◌∷◌}
use Prim.Native.Nat.{ℕ, ◌<◌}
use native.Mathlib.Omega.{arith}
use borrow.Author.Tests.{ltb-true, ne_eqb}
use lib.Dec.{ltb}
use Rattle.message.specs.declared.Row.{Row}
use Rattle.message.specs.Table.{kinds, row_in, find_of}

abbrev bytes : List Row → Bool
bytes [] = true
bytes (r ∷ rs) = ltb r.command 256 && bytes rs

above : (rs : List Row) (command : ℕ) → bytes rs ≡ true → 255 < command → row_in rs command ≡ None
above [] command b h = refl
above (r ∷ rs) command b h =
    let parts = (and-eq-true_iff (ltb r.command 256) (bytes rs)).0 b in
    let small = ltb-true r.command 256 parts.0 in
    rw (ne_eqb r.command command (λ e. omega arith)) (above rs command parts.1 h)

pub unknown_above : (command : ℕ) → 255 < command → find_of command ≡ None
unfolding find_of kinds
unknown_above command h = above kinds command refl h

-- `padded` copies the numbers to the front of twelve zeros.
use Rattle.std.proofs.lemmas.List.{drop-replicate}
use mathlib.Core.Path.{◌≡◌, ap}
use mathlib.Core.List.{List, ◌++◌}
use native.Mathlib.Omega.{arith}
use lib.IntN.{ℤ, pos}
use lib.ListN.{length}
use Rattle.to_fields.specs.declared.Fields.{Fields}
use Rattle.to_fields.proofs.padded.Goals as goal

pub returns : goal.returns
returns g c =
    let n : length c.args.first ≡ g.row.N = omega arith in
    rw (c.copy_from_slice.ensures.after, n)
    (ap {B = Fields} (λ (rest : List ℤ). record { values = c.args.first ++ rest; count = g.row.N }) (drop-replicate g.row.N 12 (pos 0)))

-- `store` has laid out the first i symbols after i iterations.
use mathlib.Core.Path.{refl}
use Prim.Native.Nat.{◌*◌}
use native.Mathlib.Numerals.{add-one}
use native.Mathlib.Omega.{arith}
use Rattle.from_fields.proofs.Each.{one_more}
use Rattle.seatalk.specs.Write.{symbol_bytes}
use Rattle.seatalk.proofs.write.store.Goals as goal

pub loop-i-preserved : goal.loop-i-preserved
loop-i-preserved c =
    let a = c.args in
    rw (c.loop-i.invariant, add-one (2 * c.loop-i.i), c.high_byte.ensures)
    (one_more symbol_bytes 2 (λ s. refl) a.symbols.now c.loop-i.i a.res.now 0 (omega arith) (omega arith))

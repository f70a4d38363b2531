-- `store_part` has laid out the first i fields at each iteration.
use borrow.Author.Rules.{rules}
use mathlib.Core.Path.{◌≡◌, refl}
use mathlib.Core.List.{List, [], ◌∷◌}
use Prim.Native.Nat.{ℕ, zero, suc, ◌≤◌, ◌<◌}
use native.Mathlib.Omega.{arith}
use lib.IntN.{ℤ, pos}
use lib.ListN.{length, get_or, take}
use lib.Seq.{length-take-le, get_or-take}
use mir.Syntax.{w32, w64}
use mir.Val.{SFits, to_z, of_z}
use mir.ValLaws.{to_z-of_z}
use Rattle.std.proofs.Math.Facts.{sfits_widen}
use Rattle.from_fields.specs.Numbers.{AllFit, field_bytes}
use Rattle.from_fields.proofs.Each.{one_more}
use Rattle.seatalk.proofs.read.store_part.Goals as goal

fit_at : (zs : List ℤ) (i : ℕ) → AllFit zs → i < length zs → SFits w32 (get_or zs i (pos 0))
fit_at [] i fits h = absurd (omega arith)
fit_at (z ∷ zs) zero fits h = fits.0
fit_at (z ∷ zs) (suc i) fits h = fit_at zs i fits.1 (omega arith)

-- a field among the first n
fits : (zs : List ℤ) (n i : ℕ) → AllFit (take n zs) → i < n → n ≤ length zs → SFits w32 (get_or zs i (pos 0))
fits zs n i all h long =
    let m : length (take n zs) ≡ n = length-take-le n zs long in
    rw (get_or-take n zs i (pos 0) h) at (fit_at (take n zs) i all (omega arith))

-- as the machine reads it back from its bits
read_back : (z : ℤ) → SFits w32 z → to_z w64 (of_z w64 z) ≡ z
read_back z h = to_z-of_z w64 z (sfits_widen tt h)

pub overflow_cast-f : goal.overflow_cast-f
overflow_cast-f c =
    let f = c.args.f in
    let long : length f.values ≡ 12 = search rules in
    let h = fits f.values f.count c.loop-i.i c.requires.1.1.0 (omega arith) (omega arith) in
    rw (read_back (get_or f.values c.loop-i.i (pos 0)) h) h

pub loop-i-preserved : goal.loop-i-preserved
loop-i-preserved c =
    let f = c.args.f in
    let long : length f.values ≡ 12 = search rules in
    let h = fits f.values f.count c.loop-i.i c.requires.1.1.0 (omega arith) (omega arith) in
    let z = get_or f.values c.loop-i.i (pos 0) in
    let bits : c.bits_of.result ≡ of_z w32 z = rw (read_back z h, to_z-of_z w32 z h) at c.bits_of.ensures in
    λ buffer same e.
    rw (← one_more field_bytes 4 (λ z. refl) f.values c.loop-i.i buffer (pos 0) (omega arith) (omega arith))
    (rw (bits, c.loop-i.invariant buffer same e) at c.put_long.ensures)

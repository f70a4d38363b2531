-- `put_fields` tests the room that the fields need; in range they have 32 bits each.
use borrow.Author.Tests.{le-leb, lt-leb}
use mathlib.Core.Path.{◌≡◌, refl}
use mathlib.Core.List.{List}
use Prim.Native.Nat.{◌+◌, ◌-◌, ◌*◌, ◌≤◌}
use native.Mathlib.Omega.{arith}
use lib.IntN.{ℤ, pos}
use lib.ListN.{length, take, replicate, length-append, length-replicate}
use lib.Seq.{take-append_seam}
use Rattle.message.specs.Fields.{fields_of}
use Rattle.to_fields.specs.declared.Fields.{Fields}
use Rattle.to_fields.specs.Array.{array_of}
use Rattle.from_fields.specs.Numbers.{field_bytes, fields_bytes}
use Rattle.from_fields.proofs.Each.{each_length}
use Rattle.seatalk.proofs.Fits.{fields_fit}
use borrow.Author.Rules.{rules}
use Rattle.seatalk.proofs.read.put_fields.Goals as goal

size : (zs : List ℤ) → length (fields_bytes zs) ≡ 4 * length zs
size zs = each_length field_bytes 4 (λ z. refl) zs

-- the fields' array holds them at its front
module _ (zs : List ℤ) (f : Fields) (e : f ≡ array_of zs) where
  listed : take f.count f.values ≡ zs
  listed = rw e (take-append_seam zs (replicate (12 - length zs) (pos 0)))

  few : length f.values ≡ 12 → length zs ≤ 12
  few long =
      let all : length f.values ≡ length zs + (12 - length zs) = rw (e, length-append, length-replicate) in
      omega arith

pub returns-then-res-from : goal.returns-then-res-from
returns-then-res-from c =
    let a = c.args in
    let f = c.fields_of-f in
    let n : f.result.count ≡ length (fields_of a.m) = rw f.ensures in
    rw (size (fields_of a.m), lt-leb (4 * length (fields_of a.m)) (length a.res.now) (omega arith))

pub store-requires : goal.store-requires
store-requires c =
    let a = c.args in
    let f = c.fields_of-f in
    let long : length f.result.values ≡ 12 = search rules in
    let n : f.result.count ≡ length (fields_of a.m) = rw f.ensures in
    (omega (arith, few (fields_of a.m) f.result f.ensures long), (omega arith, rw (listed (fields_of a.m) f.result f.ensures) (fields_fit a.m c.requires)))

pub returns : goal.returns
returns c =
    let a = c.args in
    let f = c.fields_of-f in
    let n : f.result.count ≡ length (fields_of a.m) = rw f.ensures in
    rw (size (fields_of a.m), le-leb (4 * length (fields_of a.m)) (length a.res.now) (omega arith), c.store.ensures, listed (fields_of a.m) f.result f.ensures, n)

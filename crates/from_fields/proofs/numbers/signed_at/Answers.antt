-- `signed_at` puts the four bytes of the field together, where there are four.
use mathlib.Core.Path.{◌≡◌, sym, ◌∙◌}
use Prim.Native.Nat.{◌+◌, ◌-◌, ◌*◌}
use borrow.Author.Rules.{rules}
use native.Mathlib.Omega.{arith}
use lib.ListN.{take, drop}
use Rattle.from_fields.specs.Numbers.{numbers_of}
use Rattle.from_fields.specs.Naming.{signed}
use Rattle.from_fields.proofs.Loads.{within, past}
use Rattle.from_fields.proofs.numbers.signed_at.Goals as goal

pub returns-in-Some-len4 : goal.returns-in-Some-len4
returns-in-Some-len4 c =
    let fs = c.args.fields.now in
    let found = c.in-Some-len4.ensures.lookup in
    let four : 4 * c.from-at.result + 4 - 4 * c.from-at.result ≡ 4 = omega arith in
    let part : c.in-Some-len4.field-0.now ≡ take 4 (drop (4 * c.args.i) fs) = rw (four, c.from-at.ensures) at found.0.2 in
    let e : c.from_le_bytes.result ≡ signed (numbers_of fs) c.args.i = rw part at c.from_le_bytes.ensures ∙ within fs c.args.i (omega (arith, found.0.1)) in
    search (rules, e)

pub returns-in_default-3 : goal.returns-in_default-3
returns-in_default-3 c =
    let none = rw c.in_default.is at c.get.ensures.lookup.0 in
    sym (past c.args.fields.now c.args.i (omega arith))

-- A whole datagram whose command was found reads as one of the kind of its row; and what some bytes read as.
use Rattle.std.specs.Prelude.{Some}
use mathlib.Core.Path.{◌≡◌, refl, sym}
use mathlib.Core.Bool.{true}
use mathlib.Core.List.{List}
use Prim.Native.Nat.{ℕ}
use borrow.Author.Tests.{eq-eqb}
use Rattle.datagram.specs.Whole.{whole}
use Rattle.message.specs.declared.Row.{Row}
use Rattle.message.specs.Table.{find_of}
use Rattle.message.specs.Range.{range_of}
use Rattle.message.specs.Reading.{byte, read_kind, read_of}
use Rattle.message.proofs.Found.{found_row}
use Rattle.reader.specs.OfKind.{read_of_kind, OfKindExamples}

pub of_found_kind : (s : List ℕ) (row : Row) → whole s ≡ true → find_of (byte s 0) ≡ Some row → read_of_kind row.kind s ≡ read_of s
unfolding read_of read_of_kind
of_found_kind s row w e =
    let f = found_row (byte s 0) row e in
    rw (w, e, f.1, eq-eqb (byte s 0) row.command (sym f.0)) refl

pub of_kind_examples : OfKindExamples
unfolding whole read_kind range_of read_of_kind
of_kind_examples = record { no_bytes = refl; three_bytes = refl; cut_off = refl; other_kind = refl; its_own = refl }

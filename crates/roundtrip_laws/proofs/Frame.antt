-- Reading in one step: a datagram is read exactly if it is whole, has the length of its command's row, and says a message in range.
use Rattle.std.specs.Prelude.{Result, Option, Ok, Err, Some, None, ⊤}
use mathlib.Core.Path.{◌≡◌, refl, subst}
use mathlib.Core.Bool.{Bool, true, false, cond}
use mathlib.Core.List.{List}
use Prim.Native.Nat.{ℕ}
use lib.Dec.{eqb}
use lib.ListN.{length}
use native.Mathlib.Omega.{arith}
use borrow.Author.Tests.{eqb-true, eq-eqb}
use Rattle.datagram.specs.declared.Refusal.{Refusal}
use Rattle.datagram.specs.Refusals.{not_whole, wrong_length}
use Rattle.datagram.specs.Whole.{whole}
use Rattle.message.specs.declared.Row.{Row}
use Rattle.message.specs.declared.Message.{Message}
use Rattle.message.specs.Range.{range_of}
use Rattle.message.specs.Table.{find_of}
use Rattle.message.specs.Reading.{byte, read_kind, ruled, judged, read_as, read_of}

pub record Frame (s : List ℕ) (m : Message) : Type 0 where
  pub is_whole : whole s ≡ true
  pub row : Row
  pub found : find_of (byte s 0) ≡ Some row
  pub long : length s ≡ row.length
  pub says : read_kind row.kind s ≡ Ok m
  pub in_range_lem : range_of m ≡ Ok tt

pub read : {s : List ℕ} {m : Message} → Frame s m → read_of s ≡ Ok m
unfolding read_of
read {s} f = rw (f.is_whole, f.found, eq-eqb (length s) f.row.length f.long, f.says, f.in_range_lem)

not_read : {r : Refusal} {m : Message} → ◌≡◌ {A = Result Message Refusal} (Err r) (Ok m) → ⊥
not_read e = let z : ◌≡◌ {A = ℕ} 0 1 = cc in omega arith

-- a reading that was judged and stands
stands : (r : Result Message Refusal) (m : Message) → judged r ≡ Ok m → (r ≡ Ok m) × (range_of m ≡ (Ok tt))
stands (Ok n) m e = go (range_of n) refl e
  where
    go : (v : Result ⊤ Refusal) → range_of n ≡ v → ruled v n ≡ Ok m → ◌≡◌ {A = Result Message Refusal} (Ok n) (Ok m) × (range_of m ≡ (Ok tt))
    go (Ok done) ranged e =
        let same : n ≡ m = cc in
        (e, subst (λ (x : Message). range_of x ≡ Ok tt) same ranged)
    go (Err r) ranged e = absurd (not_read e)
stands (Err r) m e = absurd (not_read e)

pub frame : (s : List ℕ) (m : Message) → read_of s ≡ Ok m → Frame s m
unfolding read_of
frame s m e = from_whole (whole s) refl e
  where
    from_length : (row : Row) → whole s ≡ true → find_of (byte s 0) ≡ Some row → (b : Bool) → eqb (length s) row.length ≡ b
        → cond b (judged (read_kind row.kind s)) (Err wrong_length) ≡ Ok m → Frame s m
    from_length row w f true l e =
        let said = stands (read_kind row.kind s) m e in
        record { is_whole = w; row = row; found = f; long = eqb-true (length s) row.length l; says = said.0; in_range_lem = said.1 }
    from_length row w f false l e = absurd (not_read e)

    from_row : (found : Option Row) → whole s ≡ true → find_of (byte s 0) ≡ found → read_as found s ≡ Ok m → Frame s m
    from_row (Some row) w f e = from_length row w f (eqb (length s) row.length) refl e
    from_row None w f e = absurd (not_read e)

    from_whole : (b : Bool) → whole s ≡ b → cond b (read_as (find_of (byte s 0)) s) (Err not_whole) ≡ Ok m → Frame s m
    from_whole true w e = from_row (find_of (byte s 0)) w refl e
    from_whole false w e = absurd (not_read e)

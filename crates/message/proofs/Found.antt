-- What holds of each row of the table holds of a row that was found; and a row that was found is its kind's.
use Rattle.std.specs.Prelude.{Some}
use mathlib.Core.Path.{◌≡◌, refl, subst}
use mathlib.Core.Bool.{Bool, true, false, cond}
use mathlib.Core.List.{List, [], ◌∷◌}
use Prim.Native.Nat.{ℕ}
use native.Mathlib.Omega.{arith}
use lib.Dec.{eqb}
use borrow.Author.Tests.{eqb-true}
use Rattle.message.specs.declared.Row.{Row}
use Rattle.message.specs.Table.{row_of, kinds, row_in, find_of}

-- what holds of each row of a table
infixr 10 ◌and◌
pub data Each (P : Row → Type 0) : List Row → Type 0 where
  end : Each P []
  ◌and◌ : {r : Row} {rs : List Row} → P r → Each P rs → Each P (r ∷ rs)

pub of_found : {P : Row → Type 0} {rs : List Row} → Each P rs → (command : ℕ) (row : Row) → row_in rs command ≡ Some row
    → (row.command ≡ command) × P row
of_found end command row e = let z : ◌≡◌ {A = ℕ} 0 1 = cc in absurd (omega arith)
of_found {P} (◌and◌ {r = r} {rs = rs} here later) command row e = go (eqb r.command command) refl e (of_found later command row)
  where
    go : (b : Bool) → eqb r.command command ≡ b → cond b (Some r) (row_in rs command) ≡ Some row
        → (row_in rs command ≡ Some row → (row.command ≡ command) × P row) → (row.command ≡ command) × P row
    go true hit e more =
        let q : r ≡ row = cc in
        subst (λ (x : Row). (x.command ≡ command) × P x) q (eqb-true _ command hit, here)
    go false hit e more = more e

own_rows : Each (λ row. row_of row.kind ≡ row) kinds
unfolding kinds
own_rows =
    refl and refl and refl and refl and refl and refl and refl and refl and refl and refl and refl and refl and refl and refl and refl and refl and refl and refl and refl and refl and refl and end

pub found_row : (command : ℕ) (row : Row) → find_of command ≡ Some row → (row.command ≡ command) × (row_of row.kind ≡ row)
unfolding find_of
found_row command row e = of_found own_rows command row e

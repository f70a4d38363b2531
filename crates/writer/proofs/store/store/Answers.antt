-- `store` puts the symbols one by one: symbol i, which past the first is byte i, goes behind those before it.
use mathlib.Core.Path.{◌≡◌, refl, ap}
use mathlib.Core.List.{List, [], ◌∷◌, ◌++◌}
use Prim.Native.Nat.{ℕ, zero, suc, ◌+◌, ◌<◌, ◌≤◌}
use native.Mathlib.Numerals.{add-one}
use native.Mathlib.Omega.{arith}
use lib.ListN.{length, get_or, take, drop, set}
use Rattle.datagram.specs.Whole.{symbols}
use Rattle.writer.proofs.store.store.Goals as goal

one_more : (xs old : List ℕ) (i : ℕ) → i < length xs → length xs ≤ length old
    → set (take i xs ++ drop i old) i (get_or xs i 0) ≡ take (suc i) xs ++ drop (suc i) old
one_more [] old i h room = absurd (omega arith)
one_more (x ∷ xs) [] i h room = absurd (omega arith)
one_more (x ∷ xs) (y ∷ old) zero h room = refl
one_more (x ∷ xs) (y ∷ old) (suc i) h room = ap (λ (l : List ℕ). x ∷ l) (one_more xs old i (omega arith) (omega arith))

symbol_more : (bytes old : List ℕ) (i : ℕ) → 1 ≤ i → i < length bytes → length bytes ≤ length old
    → set (take i (symbols bytes) ++ drop i old) i (get_or bytes i 0) ≡ take (suc i) (symbols bytes) ++ drop (suc i) old
symbol_more [] old i some h room = absurd (omega arith)
symbol_more (b ∷ bytes) old zero some h room = absurd (omega arith)
symbol_more (b ∷ bytes) old (suc i) some h room = one_more ((256 + b) ∷ bytes) old (suc i) h room

pub loop-i-preserved : goal.loop-i-preserved
loop-i-preserved g c =
    let i = c.loop-i.i in
    rw (c.loop-i.invariant, c.from-in-loop-i.ensures, add-one i) (symbol_more c.args.bytes c.args.part.now i (omega (arith, c.loop-i.auto.i)) (omega arith) (omega arith))

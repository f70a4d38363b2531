-- Numbers stored at the front of a lent buffer, where it has so much room: their number and the buffer after it, or what a
-- buffer gives that is shorter.
use Rattle.std.specs.Prelude.{ℕ, cond, List, ◌++◌, leb, length, drop}

abbrev pub at_front : {A : Type 0} → ℕ → List ℕ → List ℕ → (ℕ → List ℕ → A) → (List ℕ → A) → A
at_front room xs buffer stored short =
    cond (leb room (length buffer)) (stored (length xs) (xs ++ drop (length xs) buffer)) (short buffer)

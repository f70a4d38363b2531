-- With something held, a byte is added to it, and a command symbol cancels it.
use mathlib.Core.Path.{◌≡◌, refl}
use mathlib.Core.List.{List, [], ◌∷◌, ◌++◌}
use Prim.Native.Nat.{ℕ, ◌<◌}
use native.Mathlib.Omega.{arith}
use lib.ListN.{length}
use Rattle.listener.specs.declared.Answer.TheVariants.{Cancelled}
use Rattle.listener.specs.State.{holding}
use Rattle.listener.specs.Step.{command_symbol, other_symbol, reaching, quiet}

pub other_reaches : (xs : List ℕ) (b : ℕ) → 0 < length xs → other_symbol xs b ≡ reaching (xs ++ (b ∷ []))
other_reaches [] b h = absurd (omega arith)
other_reaches (x ∷ xs) b h = refl

pub command_cancels : (xs : List ℕ) (b : ℕ) → 0 < length xs → command_symbol xs b ≡ quiet Cancelled (holding (b ∷ []))
command_cancels [] b h = absurd (omega arith)
command_cancels (x ∷ xs) b h = refl

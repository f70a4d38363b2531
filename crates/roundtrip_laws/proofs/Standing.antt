-- The ignored bits of a byte, and what it says of the byte that they stand as written.
use mathlib.Core.Path.{◌≡◌}
use mathlib.Core.Bool.{true, not, ◌||◌, and-eq-true_iff}
use mathlib.Core.List.{List, [], ◌∷◌}
use Prim.Native.Nat.{ℕ, ◌+◌, ◌*◌, ◌%◌, ◌<◌}
use lib.Bits.{bit_and}
use lib.Dec.{T, eqb, eqb→eq}
use lib.ListN.{get_or, drop}
use Rattle.datagram.specs.Whole.{all_bytes}
use Rattle.number.specs.Word.{bit, num}
use Rattle.number.proofs.Finite.{every, at}
use Rattle.roundtrip_laws.specs.Ignored.{Ignored, as_written}
use Rattle.roundtrip_laws.proofs.Lists.{first}

-- a byte whose bits under the mask are as written
pub record Stands (mask written x : ℕ) : Type 0 where
  pub small : x < 256
  pub set : eqb (bit_and mask x) written ≡ true

abbrev pub AllStand : List Ignored → List ℕ → Type 0
AllStand [] s = Unit {0}
AllStand (i ∷ is) s = Stands i.mask i.written (get_or s 0 0) × AllStand is (drop 1 s)

pub all_stand : (is : List Ignored) (s : List ℕ) → all_bytes s ≡ true → as_written is s ≡ true → AllStand is s
all_stand [] s b w = tt
all_stand (i ∷ is) s b w =
    let here = (and-eq-true_iff (eqb (bit_and i.mask (get_or s 0 0)) i.written) (as_written is (drop 1 s))).0 w in
    let parts = first s b in
    (record { small = parts.0; set = here.0 }, all_stand is (drop 1 s) parts.1 here.1)

-- one test over all bytes: spelled again, a byte that stands is the same
pub kept : {mask written x : ℕ} → Stands mask written x → (again : ℕ → ℕ)
    → T (every 256 (λ b. not (eqb (bit_and mask b) written) || eqb (again b) b)) → again x ≡ x
kept {mask} {written} {x} h again t =
    eqb→eq _ x (rw h.set at (at 256 (λ b. not (eqb (bit_and mask b) written) || eqb (again b) b) t x h.small))

-- the high half is clear
pub clear : {x : ℕ} → Stands 0xF0 0 x → x % 16 ≡ x
clear h = kept h (λ x. x % 16) tt

-- seven bits and a flag above them
pub seven : {x : ℕ} → Stands 0 0 x → x % 128 + 128 * num (bit 128 x) ≡ x
seven h = kept h (λ x. x % 128 + 128 * num (bit 128 x)) tt

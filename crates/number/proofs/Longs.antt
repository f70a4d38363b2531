-- Bytes and the number that they say, low byte first, give each other.
use mathlib.Core.Path.{◌≡◌, sym}
use mathlib.Core.List.{[], ◌∷◌}
use Prim.Native.Nat.{ℕ, ◌+◌, ◌*◌, ◌/◌, ◌%◌, ◌<◌}
use native.Mathlib.Nat.{div-div-eq-div-mul}
use native.Mathlib.Omega.{arith}
use Rattle.number.specs.Word.{long, long_bytes}

-- a number's low byte and the rest of it
parts : (n : ℕ) → n % 256 + 256 * (n / 256) ≡ n
parts n = omega arith

-- the number that was laid out in four bytes
pub together : (n : ℕ) → n < 4294967296 → long (n % 256) (n / 256 % 256) (n / 65536 % 256) (n / 16777216 % 256) ≡ n
together n h =
    let first = parts n in
    let second : n / 256 % 256 + 256 * (n / 65536) ≡ n / 256 = rw (div-div-eq-div-mul n 256 256) at (parts (n / 256)) in
    let third : n / 65536 % 256 + 256 * (n / 16777216) ≡ n / 65536 = rw (div-div-eq-div-mul n 65536 256) at (parts (n / 65536)) in
    let last : n / 16777216 % 256 ≡ n / 16777216 = omega arith in
    omega arith

-- a byte below a number, taken off again
pub low : (a r : ℕ) → a < 256 → (a + 256 * r) % 256 ≡ a
low a r h = omega arith

pub rest : (a r : ℕ) → a < 256 → (a + 256 * r) / 256 ≡ r
rest a r h = omega arith

-- the four bytes that say a number are its bytes
pub apart : (a b c d : ℕ) → a < 256 → b < 256 → c < 256 → d < 256 → long_bytes (long a b c d) ≡ a ∷ b ∷ c ∷ d ∷ []
apart a b c d ha hb hc hd =
    let n : long a b c d ≡ a + 256 * (b + 256 * (c + 256 * d)) = omega arith in
    let two : (m : ℕ) → m / 65536 ≡ m / 256 / 256 = λ m. sym (div-div-eq-div-mul m 256 256) in
    let three : (m : ℕ) → m / 16777216 ≡ m / 65536 / 256 = λ m. sym (div-div-eq-div-mul m 65536 256) in
    let top : d % 256 ≡ d = omega arith in
    rw (n, three, two, rest a (b + 256 * (c + 256 * d)) ha, rest b (c + 256 * d) hb, rest c d hc, low a (b + 256 * (c + 256 * d)) ha, low b (c + 256 * d) hb, low c d hc, top)

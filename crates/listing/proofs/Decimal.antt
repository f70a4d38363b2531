-- Numbers in decimal: how many digits there are, and the digits from the right.
use mathlib.Core.Path.{◌≡◌, refl, ap, ◌∙◌}
use mathlib.Core.List.{List, [], ◌∷◌, ◌++◌, append_assoc}
use mathlib.Core.Bool.{Bool, true, false, cond}
use Prim.Native.Nat.{ℕ, zero, suc, ◌+◌, ◌*◌, ◌-◌, ◌/◌, ◌%◌, ◌^◌, ◌≤◌, ◌<◌}
use native.Mathlib.Nat.{pow-succ'}
use native.Mathlib.Omega.{arith}
use borrow.Author.Tests.{lt-ltb, le-ltb, ltb-true, ltb-false}
use lib.Dec.{ltb}
use lib.ListN.{length, set, length-append}
use lib.Seq.{sets, length-sets}
use Rattle.listing.specs.Text.{decimal_by, decimal, pair_of}
use Rattle.listing.proofs.Put.{set_sets}

-- the digits stand before what follows, and there are at most as many as the fuel
abbrev Between : ℕ → List ℕ → List ℕ → Type 0
Between fuel later all = (length later ≤ length all) × (length all ≤ fuel + length later)

between : (fuel n : ℕ) (later : List ℕ) → Between fuel later (decimal_by fuel n later)
between zero n later = omega arith
between (suc fuel) n later = go (ltb n 10) (between fuel (n / 10) ((48 + n % 10) ∷ later))
  where
    go : (t : Bool) → Between fuel ((48 + n % 10) ∷ later) (decimal_by fuel (n / 10) ((48 + n % 10) ∷ later))
        → Between (suc fuel) later (cond t ((48 + n) ∷ later) (decimal_by fuel (n / 10) ((48 + n % 10) ∷ later)))
    go true b = omega arith
    go false b = omega arith

pub decimal_most : (n : ℕ) → length (decimal n) ≤ 20
unfolding decimal
decimal_most n = omega (arith, between 20 n [])

-- the numbers with k digits more than one are those from `from k` to below `to k`
abbrev pub to : ℕ → ℕ
to zero = 10
to (suc k) = 10 * to k

abbrev pub from : ℕ → ℕ
from zero = 0
from (suc k) = to k

to_most : (k : ℕ) → 10 ≤ to k
to_most zero = omega arith
to_most (suc k) = omega (arith, to_most k)

from_next : (k n : ℕ) → from (suc k) ≤ n → from k ≤ n / 10
from_next zero n h = omega arith
from_next (suc k) n h = omega arith

length_by : (k fuel n : ℕ) (later : List ℕ) → k < fuel → from k ≤ n → n < to k → length (decimal_by fuel n later) ≡ suc k + length later
length_by k zero n later f l h = absurd (omega arith)
length_by zero (suc fuel) n later f l h = rw (lt-ltb n 10 h) (omega arith)
length_by (suc k) (suc fuel) n later f l h =
    let t : 10 ≤ n = omega (arith, to_most k) in
    rw (le-ltb n 10 t) (length_by k fuel (n / 10) ((48 + n % 10) ∷ later) (omega arith) (from_next k n l) (omega arith) ∙ omega arith)

pub decimal_length : (k n : ℕ) → k < 20 → from k ≤ n → n < to k → suc k ≡ length (decimal n)
unfolding decimal
decimal_length k n f l h = omega (arith, length_by k 20 n [] f l h)

to_power : (k : ℕ) → to k ≡ 10 * 10 ^ k
to_power zero = refl
to_power (suc k) = omega (arith, to_power k, pow-succ' 10 k)

from_power : (k n : ℕ) → 10 ^ k ≤ n → from k ≤ n
from_power zero n h = omega arith
from_power (suc k) n h = omega (arith, to_power k, pow-succ' 10 k)

-- as many digits as the logarithm says
pub log_length : (k n : ℕ) → k < 20 → 10 ^ k ≤ n → n < 10 * 10 ^ k → k + 1 ≡ length (decimal n)
log_length k n f l h = omega (arith, decimal_length k n f (from_power k n l) (omega (arith, to_power k)))

-- a number below `to k` has at most k digits more than one
length_most : (k fuel n : ℕ) (later : List ℕ) → n < to k → length (decimal_by fuel n later) ≤ suc k + length later
length_most k zero n later h = omega arith
length_most zero (suc fuel) n later h = rw (lt-ltb n 10 h) (omega arith)
length_most (suc k) (suc fuel) n later h = go (ltb n 10) (length_most k fuel (n / 10) ((48 + n % 10) ∷ later) (omega arith))
  where
    go : (t : Bool) → length (decimal_by fuel (n / 10) ((48 + n % 10) ∷ later)) ≤ suc k + length ((48 + n % 10) ∷ later)
        → length (cond t ((48 + n) ∷ later) (decimal_by fuel (n / 10) ((48 + n % 10) ∷ later))) ≤ suc (suc k) + length later
    go true b = omega arith
    go false b = omega arith

pub decimal_below : (k n : ℕ) → n < to k → length (decimal n) ≤ suc k
unfolding decimal
decimal_below k n h = omega (arith, length_most k 20 n [] h)

-- the digits of n that stand from e on are stored, and those of m are left
pub record Partly (before : List ℕ) (at n : ℕ) (out : List ℕ) (e m : ℕ) : Type 0 where
  pub fuel : ℕ
  pub later : List ℕ
  pub same : decimal n ≡ decimal_by (suc fuel) m later
  pub stored : out ≡ sets before e later
  pub ends : e + length later ≡ at + length (decimal n)
  pub room : m < to fuel

pub partly_none : (before : List ℕ) (at n e : ℕ) → n < to 19 → e ≡ at + length (decimal n) → Partly before at n before e n
unfolding decimal
partly_none before at n e h p =
    record { fuel = 19; later = []; same = refl; stored = refl; ends = omega arith; room = h }

-- a number of k digits more than one has more fuel than k
fuel_left : (k fuel m : ℕ) → to k ≤ m → m < to fuel → k < fuel
fuel_left k zero m l h = absurd (omega (arith, to_most k))
fuel_left zero (suc fuel) m l h = omega arith
fuel_left (suc k) (suc fuel) m l h = omega (arith, fuel_left k fuel (m / 10) (omega arith) (omega arith))

-- two digits of m, from the right
two_by : (fuel m : ℕ) (later : List ℕ) → 100 ≤ m
    → decimal_by (suc (suc fuel)) m later ≡ decimal_by fuel (m / 100) ((48 + m % 100 / 10) ∷ (48 + m % 100 % 10) ∷ later)
two_by fuel m later h =
    let a : m / 10 % 10 ≡ m % 100 / 10 = omega arith in
    let b : m % 10 ≡ m % 100 % 10 = omega arith in
    let q : m / 10 / 10 ≡ m / 100 = omega arith in
    rw (le-ltb m 10 (omega arith), le-ltb (m / 10) 10 (omega arith)) (cc)

-- numbers of one, two and three digits
pub decimal_one : (n : ℕ) → n < 10 → decimal n ≡ (48 + n) ∷ []
unfolding decimal
decimal_one n h = rw (lt-ltb n 10 h)

pub decimal_two : (n : ℕ) → 10 ≤ n → n < 100 → decimal n ≡ pair_of n
unfolding decimal
decimal_two n g h = rw (le-ltb n 10 g, lt-ltb (n / 10) 10 (omega arith))

pub decimal_three : (n : ℕ) → 100 ≤ n → n < 1000 → decimal n ≡ (48 + n / 100) ∷ pair_of (n % 100)
unfolding decimal
decimal_three n g h = two_by 18 n [] g ∙ rw (lt-ltb (n / 100) 10 (omega arith))

-- with fuel for its digits, what follows a number may be put behind it
by_enough : (k f g m : ℕ) (xs ys : List ℕ) → k < f → k < g → m < to k → decimal_by f m (xs ++ ys) ≡ decimal_by g m xs ++ ys
by_enough k zero g m xs ys p q h = absurd (omega arith)
by_enough k (suc f) zero m xs ys p q h = absurd (omega arith)
by_enough zero (suc f) (suc g) m xs ys p q h = rw (lt-ltb m 10 h)
by_enough (suc k) (suc f) (suc g) m xs ys p q h =
    go (ltb m 10) (by_enough k f g (m / 10) ((48 + m % 10) ∷ xs) ys (omega arith) (omega arith) (omega arith))
  where
    go : (t : Bool) → decimal_by f (m / 10) ((48 + m % 10) ∷ (xs ++ ys)) ≡ decimal_by g (m / 10) ((48 + m % 10) ∷ xs) ++ ys
        → cond t ((48 + m) ∷ (xs ++ ys)) (decimal_by f (m / 10) ((48 + m % 10) ∷ (xs ++ ys)))
        ≡ cond t ((48 + m) ∷ xs) (decimal_by g (m / 10) ((48 + m % 10) ∷ xs)) ++ ys
    go true e = refl
    go false e = e

-- the hundreds, and then the last two digits
decimal_hundreds : (n : ℕ) → 100 ≤ n → n < to 17 → decimal n ≡ decimal (n / 100) ++ pair_of (n % 100)
unfolding decimal
decimal_hundreds n g h =
    two_by 18 n [] g ∙ by_enough 17 18 20 (n / 100) [] (pair_of (n % 100)) (omega arith) (omega arith) (omega arith)

-- a number of at least ten has two digits or more
pub decimal_least : (n : ℕ) → 10 ≤ n → n < to 17 → 2 ≤ length (decimal n)
decimal_least n g h = go (ltb n 100) refl
  where
    go : (t : Bool) → ltb n 100 ≡ t → 2 ≤ length (decimal n)
    go true e = rw (decimal_two n g (ltb-true n 100 e)) (omega arith)
    go false e = rw (decimal_hundreds n (ltb-false n 100 e) h) (omega (arith, length-append (decimal (n / 100)) (pair_of (n % 100))))

-- the ten thousands, and then the last four digits, two and two
pub decimal_ten_thousands : (n : ℕ) → 10000 ≤ n → n < to 17
    → decimal n ≡ decimal (n / 10000) ++ (pair_of (n % 10000 / 100) ++ pair_of (n % 10000 % 100))
decimal_ten_thousands n g h =
    let a : n / 100 / 100 ≡ n / 10000 = omega arith in
    let b : n / 100 % 100 ≡ n % 10000 / 100 = omega arith in
    let c : n % 100 ≡ n % 10000 % 100 = omega arith in
    decimal_hundreds n (omega arith) h
    ∙ rw (decimal_hundreds (n / 100) (omega arith) (omega arith), a, b, c, append_assoc)

-- two stores before others
pair_sets : (l : List ℕ) (i j x y : ℕ) (xs : List ℕ) → j ≡ suc (suc i) → sets (sets l j xs) i (x ∷ y ∷ []) ≡ sets l i (x ∷ y ∷ xs)
pair_sets l i j x y xs e =
    rw e
    (ap (λ (k : List ℕ). set k (suc i) y) (set_sets l i (suc (suc i)) x xs (omega arith))
    ∙ set_sets (set l i x) (suc i) (suc (suc i)) y xs (omega arith))

module _ {before out : List ℕ} {at n e m : ℕ} (p : Partly before at n out e m) where
  same_two : 100 ≤ m → decimal n ≡ decimal_by (suc (p.fuel - 2)) (m / 100) ((48 + m % 100 / 10) ∷ (48 + m % 100 % 10) ∷ p.later)
  same_two h =
      let f : p.fuel ≡ suc (suc (p.fuel - 2)) = omega (arith, fuel_left 1 p.fuel m h p.room) in
      (rw f at p.same) ∙ two_by (suc (p.fuel - 2)) m p.later h

  pub partly_length : 100 ≤ m → at + 2 ≤ e
  partly_length h =
      let s : length (decimal n) ≡ length (decimal_by (suc (p.fuel - 2)) (m / 100) ((48 + m % 100 / 10) ∷ (48 + m % 100 % 10) ∷ p.later)) =
      ap length (same_two h)
      in
      omega (arith, p.ends, s, between (suc (p.fuel - 2)) (m / 100) ((48 + m % 100 / 10) ∷ (48 + m % 100 % 10) ∷ p.later))

  -- two digits more are stored
  pub partly_more : 100 ≤ m → Partly before at n (sets out (e - 2) ((48 + m % 100 / 10) ∷ (48 + m % 100 % 10) ∷ [])) (e - 2) (m / 100)
  partly_more h =
      let l : at + 2 ≤ e = partly_length h in
      let f : p.fuel ≡ suc (suc (p.fuel - 2)) = omega (arith, fuel_left 1 p.fuel m h p.room) in
      let r : m < 10 * (10 * to (p.fuel - 2)) = rw f at p.room in
      record {
        fuel = p.fuel - 2;
        later = (48 + m % 100 / 10) ∷ (48 + m % 100 % 10) ∷ p.later;
        same = same_two h;
        stored = rw p.stored (pair_sets before (e - 2) e (48 + m % 100 / 10) (48 + m % 100 % 10) p.later (omega arith));
        ends = omega (arith, p.ends);
        room = omega arith;
      }

  pub partly_keeps : length out ≡ length before
  partly_keeps = ap length p.stored ∙ length-sets before e p.later

  -- the last digit
  last_one : m < 10 → decimal n ≡ (48 + m) ∷ p.later
  last_one h = rw (lt-ltb m 10 h) at p.same

  pub ends_one : m < 10 → e ≡ suc at
  ends_one h = omega (arith, p.ends, ap length (last_one h))

  pub partly_one : m < 10 → set out at (48 + m) ≡ sets before at (decimal n)
  partly_one h = rw (p.stored, ends_one h, last_one h) (set_sets before at (suc at) (48 + m) p.later (omega arith))

  -- the last two
  last_two : 10 ≤ m → m < 100 → decimal n ≡ (48 + m / 10) ∷ (48 + m % 10) ∷ p.later
  last_two g h =
      let f : p.fuel ≡ suc (p.fuel - 1) = omega (arith, fuel_left 0 p.fuel m g p.room) in
      rw (f, le-ltb m 10 g, lt-ltb (m / 10) 10 (omega arith)) at p.same

  pub ends_two : 10 ≤ m → m < 100 → e ≡ suc (suc at)
  ends_two g h = omega (arith, p.ends, ap length (last_two g h))

  pub partly_two : 10 ≤ m → m < 100 → sets out at ((48 + m / 10) ∷ (48 + m % 10) ∷ []) ≡ sets before at (decimal n)
  partly_two g h = rw (p.stored, last_two g h) (pair_sets before at e (48 + m / 10) (48 + m % 10) p.later (ends_two g h))

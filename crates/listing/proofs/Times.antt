-- A time by the digits that are kept: they are stored first, and its last four digits over what is stored past them.
use mathlib.Core.Path.{◌≡◌, refl, sym, ap, ◌∙◌}
use mathlib.Core.List.{List, [], ◌∷◌, ◌++◌}
use Prim.Native.Nat.{ℕ, ◌+◌, ◌/◌, ◌%◌, ◌≤◌, ◌<◌}
use native.Mathlib.Nat.{zero-add}
use native.Mathlib.Omega.{arith}
use lib.ListN.{length, get_or, take, drop, length-append}
use lib.Seq.{sets, sets-eq, take-append_seam, length-take-le}
use Rattle.std.proofs.lemmas.List.{take-take}
use Rattle.listing.specs.Text.{Put, Kept, decimal, pair_of}
use Rattle.listing.proofs.Decimal.{decimal_most, decimal_below, decimal_least, decimal_ten_thousands}
use Rattle.listing.proofs.Put.{put_length, overlaid}

-- the first six of a list
pub six : (l : List ℕ) → 6 ≤ length l
    → take 6 l ≡ get_or l 0 0 ∷ get_or l 1 0 ∷ get_or l 2 0 ∷ get_or l 3 0 ∷ get_or l 4 0 ∷ get_or l 5 0 ∷ []
six [] h = absurd (omega arith)
six (a ∷ []) h = absurd (omega arith)
six (a ∷ b ∷ []) h = absurd (omega arith)
six (a ∷ b ∷ c ∷ []) h = absurd (omega arith)
six (a ∷ b ∷ c ∷ d ∷ []) h = absurd (omega arith)
six (a ∷ b ∷ c ∷ d ∷ e ∷ []) h = absurd (omega arith)
six (a ∷ b ∷ c ∷ d ∷ e ∷ f ∷ l) h = refl

-- a number put at the front of the bytes is kept in them
pub kept_anew : {bytes after : List ℕ} {n count : ℕ} → length bytes ≡ 20 → Put bytes 0 (decimal n) after count → Kept after n count
kept_anew {bytes} {after} {n} {count} long put =
    let many : count ≡ length (decimal n) = omega (arith, put.moved) in
    let all : after ≡ decimal n ++ drop (length (decimal n)) bytes =
    put.stored ∙ rw zero-add at (sets-eq (decimal n) bytes 0 (omega (arith, decimal_most n))) in
    record {
      long = put_length put ∙ long;
      shown = rw (many, all) (take-append_seam (decimal n) (drop (length (decimal n)) bytes));
      many = many;
    }

module _ {digits : List ℕ} {n count : ℕ} (k : Kept digits (n / 10000) count) (least : 100000 ≤ n) (below : n < 10000000000) where
  pub at_most_six : count ≤ 6
  at_most_six = omega (arith, k.many, decimal_below 5 (n / 10000) (omega arith))

  pub time_put : {out stored after : List ℕ} {at next : ℕ} → stored ≡ sets out at (take 6 digits)
      → Put stored (at + count) (pair_of (n % 10000 / 100) ++ pair_of (n % 10000 % 100)) after next → Put out at (decimal n) after next
  time_put {out} {stored} {after} {at} {next} e put =
      let four = pair_of (n % 10000 / 100) ++ pair_of (n % 10000 % 100) in
      let long : length (take 6 digits) ≡ 6 = length-take-le 6 digits (omega (arith, k.long)) in
      let kept : take count (take 6 digits) ≡ decimal (n / 10000) = take-take count 6 digits at_most_six ∙ k.shown in
      let all : decimal n ≡ take count (take 6 digits) ++ four =
      decimal_ten_thousands n (omega arith) (omega arith) ∙ ap (λ (d : List ℕ). d ++ four) (sym kept) in
      record {
        stored = put.stored ∙ ap (λ (l : List ℕ). sets l (at + count) four) e
            ∙ overlaid out at count (take 6 digits) four (omega (arith, long, at_most_six)) (omega (arith, long, k.many, decimal_least (n / 10000) (omega arith) (omega arith))) ∙ ap (sets out at) (sym all);
        moved = omega (arith, put.moved, ap length all, length-append (take count (take 6 digits)) four, ap length kept, k.many);
      }

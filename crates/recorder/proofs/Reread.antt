-- A recording that is read to its end without a refusal: its records' bytes are its own.
use Rattle.std.specs.Prelude.{Result, Option, Ok, Err, None}
use mathlib.Core.Path.{◌≡◌, refl, sym, ap, ◌∙◌}
use mathlib.Core.Bool.{Bool, true, false, cond, ◌&&◌}
use mathlib.Core.List.{List, [], ◌∷◌, ◌++◌}
use Prim.Native.Nat.{ℕ, zero, suc, ◌+◌, ◌*◌, ◌%◌, ◌≤◌, ◌<◌}
use native.Mathlib.Numerals.{add-one}
use native.Mathlib.Omega.{arith}
use borrow.Author.Tests.{leb-true, eqb-true, lt-ltb}
use lib.Dec.{leb, eqb}
use lib.ListN.{length, get_or, drop}
use lib.Seq.{drop-cons, drop-length}
use Rattle.number.specs.Word.{low_byte, high_byte}
use Rattle.number.proofs.Longs.{low, rest, apart}
use Rattle.datagram.specs.Refusals.{no_mark, symbol_above_at}
use Rattle.datagram.specs.Whole.{all_bytes}
use Rattle.datagram.proofs.Whole.{below_at}
use Rattle.recording.specs.declared.Record.{Record}
use Rattle.recording.specs.Record.{record_bytes, byte_of, time_at, symbol_at, heard}
use Rattle.recording.proofs.Records.{whole_record, at_end}
use Rattle.recorder.specs.Recording.{all_symbols, file_of}
use Rattle.recorder.specs.File.{File, before, read_from}
use Rattle.datagram.specs.declared.Refusal.{Refusal}

-- the eight bytes of a whole record with its mark
module _ (s : List ℕ) (at : ℕ) (bytes : all_bytes s ≡ true) (whole : at + 8 ≤ length s) where
  small : (i : ℕ) → get_or s i 0 < 256
  small i = below_at 256 s i (omega arith) bytes

  eight : drop at s ≡ get_or s at 0 ∷ byte_of s at 1 ∷ byte_of s at 2 ∷ byte_of s at 3 ∷ byte_of s at 4 ∷ byte_of s at 5 ∷ byte_of s at 6 ∷ byte_of s at 7 ∷ drop (at + 8) s
  eight =
      let one : (k : ℕ) → k < 8 → drop (at + k) s ≡ byte_of s at k ∷ drop (at + suc k) s = λ k h.
      let next : suc (at + k) ≡ at + suc k = omega arith in
      drop-cons s (at + k) 0 (omega arith) ∙ ap (λ (n : ℕ). byte_of s at k ∷ drop n s) next in
      drop-cons s at 0 (omega arith)
      ∙ ap (λ (x : List ℕ). get_or s at 0 ∷ x)
      (ap (λ (n : ℕ). drop n s) (sym (add-one at)) ∙ rw (one 1 (omega arith), one 2 (omega arith), one 3 (omega arith), one 4 (omega arith), one 5 (omega arith), one 6 (omega arith), one 7 (omega arith)))

  same_bytes : get_or s at 0 ≡ 0x53 → byte_of s at 1 ≡ 0x54 → record_bytes (time_at s at) (symbol_at s at) ++ drop (at + 8) s ≡ drop at s
  same_bytes first second =
      let top : byte_of s at 7 % 256 ≡ byte_of s at 7 = omega (arith, small (at + 7)) in
      let end = low_byte (symbol_at s at) ∷ high_byte (symbol_at s at) ∷ [] in
      ap (λ (x : List ℕ). (0x53 ∷ 0x54 ∷ (x ++ end)) ++ drop (at + 8) s)
      (apart (byte_of s at 2) (byte_of s at 3) (byte_of s at 4) (byte_of s at 5) (small (at + 2)) (small (at + 3)) (small (at + 4)) (small (at + 5)))
      ∙ rw (
        eight,
        first,
        second,
        low (byte_of s at 6) (byte_of s at 7) (small (at + 6)),
        rest (byte_of s at 6) (byte_of s at 7) (small (at + 6)),
        top,
      )

-- what was read from an offset on is what is written there
pub record Back (n : ℕ) (s : List ℕ) (at : ℕ) (f : File) : Type 0 where
  pub times_many : length f.times ≡ n
  pub symbols_many : length f.symbols ≡ n
  pub symbols_fit : all_symbols f.symbols ≡ true
  pub whole : at + 8 * n ≡ length s
  pub bytes : file_of f.times f.symbols ≡ drop at s

-- one record more in front
one_more : (n : ℕ) (s : List ℕ) (at : ℕ) (later : File) → all_bytes s ≡ true → at + 8 ≤ length s
    → get_or s at 0 ≡ 0x53 → byte_of s at 1 ≡ 0x54 → symbol_at s at ≤ 511
    → Back n s (at + 8) later → Back (suc n) s at (before (heard (time_at s at) (symbol_at s at)) later)
one_more n s at later all h first second low k =
    record {
      times_many = ap suc k.times_many;
      symbols_many = ap suc k.symbols_many;
      symbols_fit = rw (lt-ltb (symbol_at s at) 512 (omega arith)) k.symbols_fit;
      whole = omega (arith, k.whole);
      bytes = ap (λ (x : List ℕ). record_bytes (time_at s at) (symbol_at s at) ++ x) k.bytes ∙ same_bytes s at all h first second;
    }

pub back : (n : ℕ) (s : List ℕ) (at : ℕ) → all_bytes s ≡ true → at + 8 * n ≤ length s → (read_from n s at).last ≡ (Ok None) → Back n s at (read_from n s at)
unfolding read_from
back zero s at all h e =
    let n = at_end s at e in
    record { times_many = refl; symbols_many = refl; symbols_fit = refl; whole = omega arith; bytes = sym (ap (λ (k : ℕ). drop k s) (sym n) ∙ drop-length s) }
back (suc n) s at all h e =
    let whole = whole_record s at (omega arith) in
    let found = ap (λ (r : Result (Option Record) Refusal). before r (read_from n s (at + 8))) whole in
    rw found (go (eqb (get_or s at 0) 0x53) (eqb (byte_of s at 1) 0x54) (leb (symbol_at s at) 511) refl refl refl (back n s (at + 8) all (omega arith)) (rw found at e))
  where
    go : (t u v : Bool) → eqb (get_or s at 0) 0x53 ≡ t → eqb (byte_of s at 1) 0x54 ≡ u → leb (symbol_at s at) 511 ≡ v
        → ((read_from n s (at + 8)).last ≡ (Ok None) → Back n s (at + 8) (read_from n s (at + 8)))
        → (before (cond (t && u) (cond v (heard (time_at s at) (symbol_at s at)) (Err (symbol_above_at at))) (Err (no_mark at))) (read_from n s (at + 8))).last ≡ Ok None
        → Back (suc n) s at (before (cond (t && u) (cond v (heard (time_at s at) (symbol_at s at)) (Err (symbol_above_at at))) (Err (no_mark at))) (read_from n s (at + 8)))
    go true true true a b c later last =
        one_more n s at (read_from n s (at + 8)) all (omega arith) (eqb-true _ 0x53 a) (eqb-true _ 0x54 b) (leb-true _ 511 c) (later last)
    go true true false a b c later last = let z : ◌≡◌ {A = ℕ} 0 1 = cc in absurd (omega arith)
    go true false v a b c later last = let z : ◌≡◌ {A = ℕ} 0 1 = cc in absurd (omega arith)
    go false u v a b c later last = let z : ◌≡◌ {A = ℕ} 0 1 = cc in absurd (omega arith)

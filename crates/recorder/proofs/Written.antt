-- What was written reads back: record by record where it stands in a buffer, and as a recording of its own.
use Rattle.std.specs.Prelude.{Ok, None}
use mathlib.Core.Path.{◌≡◌, refl, sym, ap, ◌∙◌}
use mathlib.Core.Bool.{true, and-eq-true_iff}
use mathlib.Core.List.{List, [], ◌∷◌, ◌++◌, append_assoc, append-nil}
use Prim.Native.Nat.{ℕ, zero, suc, ◌+◌, ◌*◌, ◌<◌, ◌^◌}
use native.Mathlib.Nat.{add-zero}
use native.Mathlib.Omega.{arith}
use borrow.Author.Tests.{le-leb, eq-eqb, ltb-true}
use lib.Dec.{ltb}
use lib.ListN.{length, get_or, length-append}
use lib.Seq.{drop-append_seam}
use Rattle.number.specs.Word.{word, low_byte, high_byte}
use Rattle.number.proofs.Longs.{together}
use Rattle.recording.specs.Record.{record_of, record_bytes, heard}
use Rattle.recording.proofs.Records.{whole_record, without}
use Rattle.recorder.specs.Recording.{all_symbols, file_of}
use Rattle.recorder.specs.File.{file, before, read_from}
use Rattle.recorder.specs.Laws.{all_times}

-- the record at the front
front : (time symbol : ℕ) (rest : List ℕ) → time < 2 ^ 32 → symbol < 512 → record_of (record_bytes time symbol ++ rest) 0 ≡ heard time symbol
front time symbol rest t s =
    let both : word (low_byte symbol) (high_byte symbol) ≡ symbol = omega arith in
    whole_record (record_bytes time symbol ++ rest) 0 (omega arith)
    ∙ rw (together time t, both, le-leb symbol 511 (omega arith))

-- a record with bytes before it and behind it
placed : (pre : List ℕ) (time symbol : ℕ) (rest : List ℕ) → time < 2 ^ 32 → symbol < 512
    → record_of (pre ++ (record_bytes time symbol ++ rest)) (length pre) ≡ heard time symbol
placed pre time symbol rest t s =
    let all = pre ++ (record_bytes time symbol ++ rest) in
    ap (record_of all) (sym (add-zero (length pre)))
    ∙ without (length pre) all 0 (rw length-append (omega arith))
    ∙ rw (drop-append_seam pre (record_bytes time symbol ++ rest), front time symbol rest t s)

-- the first of two lists of times and symbols, and the others
record Split (time symbol : ℕ) (times symbols : List ℕ) : Type 0 where
  time_fits : time < 2 ^ 32
  symbol_fits : symbol < 512
  times_fit : all_times times ≡ true
  symbols_fit : all_symbols symbols ≡ true

split : (time symbol : ℕ) (times symbols : List ℕ) → all_times (time ∷ times) ≡ true → all_symbols (symbol ∷ symbols) ≡ true → Split time symbol times symbols
split time symbol times symbols t s =
    let ts = (and-eq-true_iff (ltb time (2 ^ 32)) (all_times times)).0 t in
    let ss = (and-eq-true_iff (ltb symbol 512) (all_symbols symbols)).0 s in
    record { time_fits = ltb-true time (2 ^ 32) ts.0; symbol_fits = ltb-true symbol 512 ss.0; times_fit = ts.1; symbols_fit = ss.1 }

-- the bytes before the second record are those before the first, and the first
along : (pre : List ℕ) (time symbol : ℕ) (later rest : List ℕ)
    → pre ++ ((record_bytes time symbol ++ later) ++ rest) ≡ (pre ++ record_bytes time symbol) ++ (later ++ rest)
along pre time symbol later rest =
    ap (λ (x : List ℕ). pre ++ x) (append_assoc (record_bytes time symbol) later rest) ∙ sym (append_assoc pre (record_bytes time symbol) (later ++ rest))

pub each_placed : (pre times symbols rest : List ℕ) (i : ℕ) → all_times times ≡ true → all_symbols symbols ≡ true → length times ≡ length symbols → i < length times
    → record_of (pre ++ (file_of times symbols ++ rest)) (length pre + 8 * i) ≡ heard (get_or times i 0) (get_or symbols i 0)
each_placed pre [] symbols rest i t s e h = absurd (omega arith)
each_placed pre (time ∷ times) [] rest i t s e h = absurd (omega arith)
each_placed pre (time ∷ times) (symbol ∷ symbols) rest zero t s e h =
    let k = split time symbol times symbols t s in
    rw (append_assoc (record_bytes time symbol) (file_of times symbols) rest, add-zero (length pre))
    (placed pre time symbol (file_of times symbols ++ rest) k.time_fits k.symbol_fits)
each_placed pre (time ∷ times) (symbol ∷ symbols) rest (suc i) t s e h =
    let k = split time symbol times symbols t s in
    let at : length pre + 8 * suc i ≡ length (pre ++ record_bytes time symbol) + 8 * i = rw length-append (omega arith) in
    rw (along pre time symbol (file_of times symbols) rest, at)
    (each_placed (pre ++ record_bytes time symbol) times symbols rest i k.times_fit k.symbols_fit (omega arith) (omega arith))

the_end : (s : List ℕ) → record_of s (length s) ≡ Ok None
unfolding record_of
the_end s = rw (le-leb (length s) (length s) (omega arith), eq-eqb (length s) (length s) refl)

pub file_reads : (pre times symbols : List ℕ) → all_times times ≡ true → all_symbols symbols ≡ true → length times ≡ length symbols
    → read_from (length times) (pre ++ file_of times symbols) (length pre) ≡ file times symbols (Ok None)
unfolding read_from
file_reads pre [] [] t s e = rw (append-nil, the_end pre)
file_reads pre [] (symbol ∷ symbols) t s e = absurd (omega arith)
file_reads pre (time ∷ times) [] t s e = absurd (omega arith)
file_reads pre (time ∷ times) (symbol ∷ symbols) t s e =
    let k = split time symbol times symbols t s in
    let at : length pre + 8 ≡ length (pre ++ record_bytes time symbol) = rw length-append (omega arith) in
    let later = file_reads (pre ++ record_bytes time symbol) times symbols k.times_fit k.symbols_fit (omega arith) in
    rw (placed pre time symbol (file_of times symbols) k.time_fits k.symbol_fits, at, ← append_assoc pre (record_bytes time symbol) (file_of times symbols))
    (ap (before (heard time symbol)) later)

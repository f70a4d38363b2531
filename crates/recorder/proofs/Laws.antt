-- An accepted run met every condition; so the laws of rules 9.5 follow from what its bytes read as.
use Rattle.std.specs.Prelude.{Ok, Err, None}
use mathlib.Core.Path.{◌≡◌, refl, sym, ap, ◌∙◌}
use mathlib.Core.Bool.{Bool, true, false, ◌&&◌, and-eq-true_iff}
use mathlib.Core.List.{List, [], ◌∷◌, ◌++◌}
use Prim.Native.Nat.{ℕ, ◌+◌, ◌-◌, ◌*◌, ◌/◌, ◌≤◌, ◌<◌}
use native.Mathlib.Omega.{arith}
use borrow.Author.Tests.{le-leb, leb-true, leb-false, lt-ltb, le-ltb, eqb-true, eq-eqb}
use lib.Dec.{leb, eqb}
use lib.ListN.{length, get_or, take, drop}
use lib.Seq.{length-take-le, take_at, drop_at}
use Rattle.datagram.specs.Position.{Outcome, outcome}
use Rattle.datagram.specs.Refusals.{no_room, symbol_above, different_lengths}
use Rattle.datagram.specs.Whole.{all_bytes}
use Rattle.recording.specs.Record.{record_of, heard}
use Rattle.recorder.specs.Recording.{all_symbols, file_of, record_written, run_written}
use Rattle.recorder.specs.File.{file, read_from, file_read}
use Rattle.recorder.specs.Laws.{all_times, RecordingLaws}
use Rattle.recorder.proofs.Files.{file_length}
use Rattle.recorder.proofs.Written.{each_placed, file_reads}
use Rattle.recorder.proofs.Reread.{back}

module _ (times symbols buffer : List ℕ) (at : ℕ) where
  -- the bytes of a run from the position on
  abbrev stood : List ℕ
  stood = take at buffer ++ (file_of times symbols ++ drop (at + 8 * length times) buffer)

  record Accepted (n : ℕ) : Type 0 where
    same : length times ≡ length symbols
    fit : all_symbols symbols ≡ true
    count : n ≡ 8 * length times
    room : at + 8 * length times ≤ length buffer
    left : (run_written times symbols buffer at).buffer ≡ stood

  written : length times ≡ length symbols → all_symbols symbols ≡ true → at + 8 * length times ≤ length buffer
      → run_written times symbols buffer at ≡ outcome (Ok (8 * length times)) stood
  unfolding run_written
  written e f h =
      rw (
        eq-eqb (length times) (length symbols) e,
        f,
        le-leb at (length buffer) (omega arith),
        le-leb (8 * length times) (length buffer - at) (omega arith),
      )

  judged : (n : ℕ) → (run_written times symbols buffer at).answer ≡ Ok n → Accepted n
  unfolding run_written
  judged n h = go (eqb (length times) (length symbols)) (all_symbols symbols) (leb at (length buffer) && leb (8 * length times) (length buffer - at)) refl refl refl
    where
      go : (t u v : Bool) → eqb (length times) (length symbols) ≡ t → all_symbols symbols ≡ u → (leb at (length buffer) && leb (8 * length times) (length buffer - at)) ≡ v → Accepted n
      go true true true e f g =
          let same = eqb-true (length times) (length symbols) e in
          let both = (and-eq-true_iff (leb at (length buffer)) (leb (8 * length times) (length buffer - at))).0 g in
          let inside = leb-true at (length buffer) both.0 in
          let fits = leb-true (8 * length times) (length buffer - at) both.1 in
          let room : at + 8 * length times ≤ length buffer = omega arith in
          let done = written same f room in
          let told : Ok (8 * length times) ≡ Ok n = sym (ap (λ (o : Outcome). o.answer) done) ∙ h in
          record { same = same; fit = f; count = cc; room = room; left = ap (λ (o : Outcome). o.buffer) done }
      go true true false e f g = let told : Err no_room ≡ Ok n = rw (e, f, g) at h in let z : ◌≡◌ {A = ℕ} 0 1 = cc in absurd (omega arith)
      go true false v e f g = let told : Err symbol_above ≡ Ok n = rw (e, f) at h in let z : ◌≡◌ {A = ℕ} 0 1 = cc in absurd (omega arith)
      go false u v e f g = let told : Err different_lengths ≡ Ok n = rw e at h in let z : ◌≡◌ {A = ℕ} 0 1 = cc in absurd (omega arith)

accepted : (times symbols buffer : List ℕ) (at n : ℕ) → (run_written times symbols buffer at).answer ≡ Ok n
    → (length times ≡ length symbols) × ((all_symbols symbols ≡ true) × (at + 8 * length times ≤ length buffer))
accepted times symbols buffer at n h = let k = judged times symbols buffer at n h in (k.same, (k.fit, k.room))

in_place : (times symbols buffer : List ℕ) (at n i : ℕ) → all_times times ≡ true
    → (run_written times symbols buffer at).answer ≡ Ok n → i < length times
    → record_of (run_written times symbols buffer at).buffer (at + 8 * i) ≡ heard (get_or times i 0) (get_or symbols i 0)
in_place times symbols buffer at n i t h l =
    let k = judged times symbols buffer at n h in
    let many = length-take-le at buffer (omega (arith, k.room)) in
    rw k.left
    (rw many at (each_placed (take at buffer) times symbols (drop (at + 8 * length times) buffer) i t k.fit k.same l))

own_file : (times symbols buffer : List ℕ) (at n : ℕ) → all_times times ≡ true
    → (run_written times symbols buffer at).answer ≡ Ok n
    → file_read (take n (drop at (run_written times symbols buffer at).buffer)) ≡ file times symbols (Ok None)
unfolding file_read
own_file times symbols buffer at n t h =
    let k = judged times symbols buffer at n h in
    let long = file_length times symbols k.same in
    let rest = drop (at + 8 * length times) buffer in
    let part : take n (drop at (stood times symbols buffer at)) ≡ file_of times symbols =
    rw (drop_at (take at buffer) (file_of times symbols ++ rest) at (length-take-le at buffer (omega (arith, k.room))))
    (take_at (file_of times symbols) rest n (long ∙ sym k.count)) in
    let many : length (file_of times symbols) / 8 ≡ length times = omega arith in
    rw (k.left, part, many) (file_reads [] times symbols t k.fit k.same)

read_writes : (s buffer : List ℕ) (at : ℕ) → all_bytes s ≡ true → (file_read s).last ≡ (Ok None) → at + length s ≤ length buffer
    → run_written (file_read s).times (file_read s).symbols buffer at
    ≡ outcome (Ok (length s)) (take at buffer ++ (s ++ drop (at + length s) buffer))
unfolding file_read
read_writes s buffer at b e h =
    let f = read_from (length s / 8) s 0 in
    let k = back (length s / 8) s 0 b (omega arith) e in
    let many : 8 * length f.times ≡ length s = omega (arith, k.times_many, k.whole) in
    written f.times f.symbols buffer at (k.times_many ∙ sym k.symbols_many) k.symbols_fit (omega arith)
    ∙ rw (many, k.bytes)

one_is_run : (time symbol : ℕ) (buffer : List ℕ) (at : ℕ)
    → record_written time symbol buffer at ≡ run_written (time ∷ []) (symbol ∷ []) buffer at
unfolding record_written run_written
one_is_run time symbol buffer at = go (leb symbol 511) refl
  where
    go : (t : Bool) → leb symbol 511 ≡ t → record_written time symbol buffer at ≡ run_written (time ∷ []) (symbol ∷ []) buffer at
    go true e = let l = leb-true symbol 511 e in rw (e, lt-ltb symbol 512 (omega arith))
    go false e = let l = leb-false symbol 511 e in rw (e, le-ltb symbol 512 (omega arith))

pub recording_laws : RecordingLaws
recording_laws = record { written = written; accepted = accepted; in_place = in_place; own_file = own_file; read_writes = read_writes; one_is_run = one_is_run }

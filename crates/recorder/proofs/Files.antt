-- The bytes of a run of records: eight for each, and one more record behind the first i.
use mathlib.Core.Path.{◌≡◌, refl, sym, ap, ◌∙◌}
use mathlib.Core.List.{List, [], ◌∷◌, ◌++◌, append_assoc, append-nil}
use Prim.Native.Nat.{ℕ, zero, suc, ◌+◌, ◌*◌, ◌≤◌, ◌<◌}
use native.Mathlib.Omega.{arith}
use lib.ListN.{length, get_or, take, drop, length-append}
use lib.Seq.{length-take-le, sets}
use Rattle.datagram.proofs.Lent.{grown}
use Rattle.recording.specs.Record.{record_bytes}
use Rattle.recorder.specs.Recording.{file_of}

pub file_length : (times symbols : List ℕ) → length times ≡ length symbols → length (file_of times symbols) ≡ 8 * length times
file_length [] symbols e = refl
file_length (t ∷ times) [] e = absurd (omega arith)
file_length (t ∷ times) (s ∷ symbols) e = let later = file_length times symbols (omega arith) in rw length-append (omega arith)

-- the first i records and one more
more : (times symbols : List ℕ) (i : ℕ) → i < length times → length times ≡ length symbols
    → file_of (take (suc i) times) (take (suc i) symbols) ≡ file_of (take i times) (take i symbols) ++ record_bytes (get_or times i 0) (get_or symbols i 0)
more [] symbols i h e = absurd (omega arith)
more (t ∷ times) [] i h e = absurd (omega arith)
more (t ∷ times) (s ∷ symbols) zero h e = append-nil (record_bytes t s)
more (t ∷ times) (s ∷ symbols) (suc i) h e =
    ap (λ (r : List ℕ). record_bytes t s ++ r) (more times symbols i (omega arith) (omega arith))
    ∙ sym (append_assoc (record_bytes t s) (file_of (take i times) (take i symbols)) (record_bytes (get_or times i 0) (get_or symbols i 0)))

-- the first i records at the front of a part
module _ (times symbols part : List ℕ) (i : ℕ) (e : length times ≡ length symbols) where
  front : i ≤ length times → length (file_of (take i times) (take i symbols)) ≡ 8 * i
  front h =
      let a = length-take-le i times h in
      let b = length-take-le i symbols (omega arith) in
      file_length (take i times) (take i symbols) (a ∙ sym b) ∙ ap (λ (n : ℕ). 8 * n) a

  pub one_more : i < length times → 8 * (i + 1) ≤ length part
      → sets (file_of (take i times) (take i symbols) ++ drop (8 * i) part) (8 * i) (record_bytes (get_or times i 0) (get_or symbols i 0))
      ≡ file_of (take (i + 1) times) (take (i + 1) symbols) ++ drop (8 * (i + 1)) part
  one_more h room =
      let n : i + 1 ≡ suc i = omega arith in
      let m : 8 * i + 8 ≡ 8 * suc i = omega arith in
      grown (file_of (take i times) (take i symbols)) (record_bytes (get_or times i 0) (get_or symbols i 0)) part (8 * i) (front (omega arith)) (omega arith)
      ∙ rw (m, n, more times symbols i h e)

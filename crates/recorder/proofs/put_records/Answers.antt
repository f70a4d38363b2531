-- `put_records` has stored the first i records after i iterations.
use mathlib.Core.Path.{◌≡◌, sym, ap, ◌∙◌}
use mathlib.Core.List.{List, ◌∷◌}
use Prim.Native.Nat.{ℕ, ◌+◌, ◌*◌, ◌<◌}
use native.Mathlib.Numerals.{add-one}
use native.Mathlib.Omega.{arith}
use lib.ListN.{length, get_or, drop, length-drop}
use lib.Seq.{sets, drop-cons}
use Rattle.recording.specs.Record.{record_bytes}
use Rattle.recorder.proofs.Files.{one_more}
use Rattle.recorder.proofs.put_records.Goals as goal

-- what an iterator has left begins with the element at its count
record Next (xs : List ℕ) (i x : ℕ) (rest : List ℕ) : Type 0 where
  within : i < length xs
  here : get_or xs i 0 ≡ x
  later : rest ≡ drop (i + 1) xs

next : (xs rest : List ℕ) (i x : ℕ) → drop i xs ≡ x ∷ rest → Next xs i x rest
next xs rest i x e =
    let h : i < length xs = omega (arith, length-drop i xs, ap length e) in
    let k = drop-cons xs i 0 h in
    record { within = h; here = cc; later = rw add-one (cc) }

pub loop-i-preserved : goal.loop-i-preserved
loop-i-preserved c =
    let a = c.args in
    let v = c.loop-i.invariant in
    let s = c.in-Some.ensures.steps in
    let i = c.loop-i.i-iterator.count in
    let t = next a.times.now _ i c.in-Some.field-0-1-0.now (sym v.times ∙ s.0.0) in
    let y = next a.symbols.now _ i c.in-Some.field-0-1-1.now (sym v.symbols ∙ s.0.1) in
    let put : c.put_record.new.lent ≡ sets c.loop-i.part (8 * i) (record_bytes (get_or a.times.now i 0) (get_or a.symbols.now i 0)) =
    rw (t.here, y.here, ← s.1) c.put_record.ensures in
    record {
      within = rw s.2 (omega (arith, t.within));
      times = rw s.2 t.later;
      symbols = rw s.2 y.later;
      part = put ∙ rw (v.part, one_more a.times.now a.symbols.now a.part.now i c.requires t.within (omega (arith, t.within)), s.2);
    }

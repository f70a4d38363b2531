-- `record_at` takes the bytes from the offset on apart: the definition's tests of the offset are tests of how many they are.
use Rattle.std.specs.Prelude.{Err}
use borrow.Author.Tests.{eq-eqb, le-leb, lt-leb}
use mathlib.Core.Path.{◌≡◌, ap, sym, ◌∙◌}
use mathlib.Core.List.{List}
use mathlib.Core.Logic.{inl, inr}
use Prim.Native.Nat.{ℕ, ◌+◌, ◌-◌, ◌<◌}
use native.Mathlib.Omega.{arith}
use lib.ListN.{length, get_or, drop, length-drop}
use lib.Seq.{get_or-drop, take_all}
use Rattle.std.specs.List.{slice_range}
use native.Mathlib.Nat.{add-zero}
use Rattle.recording.specs.Record.{record_of, time_at, symbol_at}
use Rattle.recording.proofs.Records.{whole_record}
use Rattle.recording.proofs.record_at.Goals as goal

pub returns-in-None : goal.returns-in-None
unfolding record_of
returns-in-None c =
    let s = c.args.bytes.now in
    let past : length s < c.args.at = elim c.in-None.ensures.lookup.0 [ inl h ↦ h | inr h ↦ absurd (omega (arith, h)) ] in
    ap Err c.cut_short.ensures ∙ rw (lt-leb _ _ past)

pub returns-in-Some-empty : goal.returns-in-Some-empty
unfolding record_of
returns-in-Some-empty c =
    let s = c.args.bytes.now in
    let h = c.in-Some-empty.ensures.lookup.0 in
    rw (le-leb c.args.at (length s) h.0, eq-eqb (length s) c.args.at (omega (arith, h.3, c.in-Some-empty.len_below)))

-- a byte of those from the offset on
byte : (s part : List ℕ) (at i : ℕ) → part ≡ slice_range s at (length s) → get_or part i 0 ≡ get_or s (at + i) 0
byte s part at i e =
    ap (λ (xs : List ℕ). get_or xs i 0) (e ∙ take_all (length s - at) (drop at s) (omega (arith, length-drop at s))) ∙ get_or-drop at s i 0

pub returns-in-Some-len8-up : goal.returns-in-Some-len8-up
returns-in-Some-len8-up c =
    let s = c.args.bytes.now in
    let at = c.args.at in
    let part = c.in-Some-len8-up.field-0.now in
    let h = c.in-Some-len8-up.ensures.lookup.0 in
    let b : (i : ℕ) → get_or part i 0 ≡ get_or s (at + i) 0 = λ i. byte s part at i h.2 in
    let time : c.from_le_bytes.result ≡ time_at s at = omega (arith, c.from_le_bytes.ensures, b 2, b 3, b 4, b 5) in
    let symbol : c.from_le_bytes-in-Some-len8-up.result ≡ symbol_at s at = omega (arith, c.from_le_bytes-in-Some-len8-up.ensures, b 6, b 7) in
    let mark : get_or part 0 0 ≡ get_or s at 0 = rw add-zero at (b 0) in
    c.judged.ensures
    ∙ rw (mark, b 1, time, symbol)
    (sym (whole_record s at (omega (arith, h.3, c.in-Some-len8-up.len_at_least))))

-- `extended` finds the declared length reached exactly where the definition does, and else stores the byte after those held.
use borrow.Author.Rules.{rules}
use Prim.Native.Nat.{ℕ, ◌+◌, ◌<◌}
use mathlib.Core.Path.{◌≡◌, refl, ◌∙◌, ap}
use mathlib.Core.List.{List, [], ◌∷◌, ◌++◌}
use native.Mathlib.Omega.{arith}
use lib.Dec.{eqb}
use lib.ListN.{length, get_or, set, length-append}
use borrow.Author.Tests.{ne_eqb}
use Rattle.datagram.specs.Whole.{declared}
use Rattle.datagram.specs.Padding.{pad_to}
use Rattle.datagram.proofs.Padding.{set_pad, get_d_pad}
use Rattle.listener.specs.declared.Listener.{Listener}
use Rattle.listener.specs.declared.Answer.TheVariants.{Kept}
use Rattle.listener.specs.State.{held_bytes, holding}
use Rattle.listener.specs.Step.{other_symbol, quiet}
use Rattle.listener.proofs.Sound.{held_by, Held}
use Rattle.listener.proofs.Started.{other_reaches}
use Rattle.listener.proofs.extended.Goals as goal
use Rattle.listener.proofs.extended.Goals.{Start}

-- the new byte changes what is declared only as the second, and two bytes are fewer than any declared length
same_test : (xs : List ℕ) (b : ℕ) → eqb (length (xs ++ (b ∷ []))) (declared (get_or (xs ++ (b ∷ [])) 1 0)) ≡ eqb (length xs + 1) (declared (get_or xs 1 0))
same_test [] b = refl
same_test (x ∷ []) b = rw (ne_eqb 2 (declared b) (λ e. omega arith))
same_test (x ∷ y ∷ xs) b = simp length-append

module _ (l : Listener) (b : ℕ) (k : Held l) where
  test : eqb (length (held_bytes l ++ (b ∷ []))) (declared (get_or (held_bytes l ++ (b ∷ [])) 1 0)) ≡ eqb (l.held + 1) (declared (get_or l.bytes 1 0))
  test =
      let second : get_or l.bytes 1 0 ≡ get_or (held_bytes l) 1 0 = ap (λ (xs : List ℕ). get_or xs 1 0) k.array ∙ get_d_pad 17 1 (held_bytes l) in
      same_test (held_bytes l) b ∙ rw (k.count, second)

  next : l.held < 17 → ◌≡◌ {A = Listener} (record { bytes = set l.bytes l.held b; held = l.held + 1 }) (holding (held_bytes l ++ (b ∷ [])))
  next h =
      let bytes : set l.bytes l.held b ≡ pad_to 17 (held_bytes l ++ (b ∷ [])) =
      ap (λ (xs : List ℕ). set xs l.held b) k.array ∙ set_pad 17 (held_bytes l) l.held b k.count h in
      let count : length (held_bytes l ++ (b ∷ [])) ≡ l.held + 1 = simp (length-append, k.count) in
      rw (bytes, count)

  keeps : (i : ℕ) → i ≡ l.held → 0 < l.held → (l.held + 1 ≡ declared (get_or l.bytes 1 0) → ⊥) → quiet Kept (record { bytes = set l.bytes i b; held = l.held + 1 }) ≡ other_symbol (held_bytes l) b
  keeps i same some before-end =
      rw (same, other_reaches (held_bytes l) b (omega arith), test, ne_eqb (l.held + 1) (declared (get_or l.bytes 1 0)) before-end)
      (ap (λ (s : Listener). quiet Kept s) (next (omega (arith, k))))

known : (c : goal.Start) → Held c.args.l
known c = held_by c.args.l (search rules) c.requires.0

pub overflow_add-l : goal.overflow_add-l
overflow_add-l c = omega (arith, known (goal.at.overflow_add-l c).Start)

pub bounds-next-from : goal.bounds-next-from
bounds-next-from c = omega (arith, known (goal.at.bounds-next-from c).Start)

pub overflow_add-next : goal.overflow_add-next
overflow_add-next c = omega (arith, known (goal.at.overflow_add-next c).Start)

pub returns : goal.returns
returns c =
    c.without_bytes.ensures ∙ keeps c.args.l c.args.byte (known (goal.at.returns c).Start) c.from.result c.from.ensures c.requires.1 c.if-l.false

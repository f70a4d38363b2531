-- `hear` makes the definition's tests in the definition's order; a stray leaves the state, which is sound and so the empty one.
use borrow.Author.Rules.{rules}
use borrow.Author.Tests.{le-leb, lt-leb}
use Prim.Native.Nat.{ℕ, ◌-◌}
use mathlib.Core.Bool.{true, false}
use mathlib.Core.Path.{◌≡◌, sym, ◌∙◌, ap}
use native.Mathlib.Omega.{arith}
use lib.ListN.{length, get_or}
use Rattle.listener.specs.declared.Listener.{Listener}
use Rattle.listener.specs.declared.Answer.TheVariants.{Stray}
use Rattle.listener.specs.State.{sound, held_bytes, empty_listener}
use Rattle.listener.specs.Step.{hear_of, step, quiet, other_symbol}
use Rattle.listener.proofs.Order.{refused_above, refused_unsound, step_taken}
use Rattle.listener.proofs.Sound.{held_by, holding_held}
use Rattle.listener.proofs.hear.Goals as goal
use Rattle.listener.proofs.hear.Goals.{Else-not-is_sound, Else-symbol-ge256}

-- a sound state with none held is the empty one
strays : (l : Listener) (b : ℕ) → length l.bytes ≡ 17 → sound l ≡ true → l.held ≡ 0 → quiet Stray l ≡ other_symbol (held_bytes l) b
strays l b long s e =
    let same : l ≡ empty_listener = sym (holding_held l (held_by l long s)) ∙ rw e in
    ap (λ (k : Listener). quiet Stray k) same ∙ rw e

past_sound : (c : goal.Else-not-is_sound) → sound c.args.l ≡ true
past_sound c = sym c.is_sound.ensures ∙ c.if-not-is_sound.false

-- past the refusals the step is taken
steps : (c : goal.Else-not-is_sound) → let a = c.args in hear_of a.l a.symbol ≡ step (held_bytes a.l) a.symbol
steps c = let a = c.args in step_taken a.l a.symbol (omega arith) (past_sound c)

-- past the command symbols it is another symbol's
others : (c : goal.Else-symbol-ge256) → let a = c.args in hear_of a.l a.symbol ≡ other_symbol (held_bytes a.l) a.symbol
unfolding step
others c = steps c.before.before ∙ rw (lt-leb 256 c.args.symbol (omega arith))

pub returns-then-symbol-gt511 : goal.returns-then-symbol-gt511
returns-then-symbol-gt511 c =
    let a = c.args in
    rw (refused_above a.l a.symbol (omega arith)) c.refused.ensures

pub returns-then-not-is_sound : goal.returns-then-not-is_sound
returns-then-not-is_sound c =
    let a = c.args in
    let unsound : sound a.l ≡ false = sym c.is_sound.ensures ∙ c.if-not-is_sound.true in
    rw (refused_unsound a.l a.symbol (omega arith) unsound) c.refused-then-not-is_sound.ensures

pub returns-then-symbol-ge256 : goal.returns-then-symbol-ge256
unfolding step
returns-then-symbol-ge256 c =
    let byte : get_or c.to_le_bytes.result 0 0 ≡ c.args.symbol - 256 = rw c.to_le_bytes.ensures (omega arith) in
    rw byte at c.opened.ensures ∙ sym (steps (goal.at.returns-then-symbol-ge256 c).Else-not-is_sound ∙ rw (le-leb 256 c.args.symbol (omega arith)))

pub returns-then-l-eq0 : goal.returns-then-l-eq0
returns-then-l-eq0 c =
    let a = c.args in
    c.without_bytes.ensures ∙ strays a.l a.symbol (search rules) (past_sound (goal.at.returns-then-l-eq0 c).Else-not-is_sound) (omega arith) ∙ sym (others (goal.at.returns-then-l-eq0 c).Else-symbol-ge256)

pub returns : goal.returns
returns c =
    let byte : get_or c.to_le_bytes.result 0 0 ≡ c.args.symbol = rw c.to_le_bytes.ensures (omega arith) in
    rw byte at c.extended.ensures ∙ sym (others (goal.at.returns c).Else-symbol-ge256)

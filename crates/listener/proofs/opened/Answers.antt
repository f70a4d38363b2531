-- `opened` stores the byte into an empty state, and answers by whether anything was held.
use borrow.Author.Rules.{rules}
use Prim.Native.Nat.{ℕ, ◌<◌}
use mathlib.Core.Path.{◌≡◌, refl, sym, ap, ◌∙◌}
use mathlib.Core.List.{[], ◌∷◌}
use native.Mathlib.Omega.{arith}
use lib.ListN.{length, set, length-take}
use Rattle.datagram.proofs.Padding.{set_pad}
use Rattle.listener.specs.declared.Listener.{Listener}
use Rattle.listener.specs.declared.Answer.TheVariants.{Cancelled}
use Rattle.listener.specs.State.{held_bytes, holding, empty_listener}
use Rattle.listener.specs.Step.{quiet}
use Rattle.listener.proofs.Started.{command_cancels}
use Rattle.listener.proofs.opened.Goals as goal

alone : (s : Listener) (b : ℕ) → s ≡ empty_listener → ◌≡◌ {A = Listener} (record { bytes = set s.bytes 0 b; held = 1 }) (holding (b ∷ []))
alone s b e = rw (e, set_pad 17 [] 0 b refl (omega arith))

pub returns-then-l-eq0 : goal.returns-then-l-eq0
returns-then-l-eq0 c =
    c.without_bytes.ensures ∙ rw (c.if-l-eq0.true, alone c.empty_listener-next.result c.args.byte c.empty_listener-next.ensures)

pub returns-else-l-eq0 : goal.returns-else-l-eq0
returns-else-l-eq0 c =
    let l = c.args.l in
    let long : length l.bytes ≡ 17 = search rules in
    let some : 0 < length (held_bytes l) = rw length-take (omega arith) in
    c.without_bytes-else-l-eq0.ensures
    ∙ ap (λ (s : Listener). quiet Cancelled s) (alone c.empty_listener-next.result c.args.byte c.empty_listener-next.ensures)
    ∙ sym (command_cancels (held_bytes l) c.args.byte some)

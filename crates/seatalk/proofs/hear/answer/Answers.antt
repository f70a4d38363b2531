-- `answer` stores both where the definition does, and else only answers the refusal.
use borrow.Author.Rules.{rules}
use mathlib.Core.Path.{sym, ap, ◌∙◌}
use Rattle.listener.specs.declared.Heard.{Heard}
use Rattle.seatalk.specs.Hear.{number_of}
use Rattle.seatalk.proofs.Kept.{one_longer}
use Rattle.seatalk.proofs.hear.answer.Goals as goal

pub put_next-requires : goal.put_next-requires
put_next-requires c =
    let a = c.args in
    let p = c.requires in
    λ e. rw (p, c.to_le_bytes.ensures) (one_longer a.state.now a.symbol (search rules) (ap number_of (ap (λ (h : Heard). h.answer) (sym p) ∙ e)))

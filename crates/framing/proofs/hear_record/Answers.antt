-- `hear_record` hears the record that stands there, as the walk does.
use Rattle.std.specs.Prelude.{Ok}
use borrow.Author.Rules.{rules}
use mathlib.Core.Path.{◌≡◌, refl, sym, ap, ◌∙◌}
use lib.ListN.{length}
use Rattle.listener.specs.declared.Heard.{Heard}
use Rattle.framing.proofs.Steps.{record_heard}
use Rattle.framing.proofs.hear_record.Goals as goal

pub returns : goal.returns
returns c =
    let heard = c.hear-h.ensures in
    let long : length c.hear-h.result.bytes ≡ 18 = search rules in
    record_heard c.in-Some.r _ (sym c.record_at.ensures ∙ c.in_ok-r.was ∙ ap Ok c.in-Some.is) (c.advance.ensures ∙ rw heard) refl (c.from.ensures ∙ ap (λ (h : Heard). h.count) heard) (ap (λ (h : Heard). h.bytes) heard) long

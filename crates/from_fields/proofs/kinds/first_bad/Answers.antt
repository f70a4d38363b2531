-- `first_bad` finds the first flag that is above 1, and so does `bad_flag`.
use Rattle.std.proofs.Common.{rules, tests, ◌≡◌, ℕ, ◌-◌, List, [], ◌∷◌, refl, sym, ◌∙◌, leb}
use mathlib.Core.Bool.{Bool, not}
use Rattle.std.specs.List.{find}
use lib.IntN.{ℤ}
use Rattle.std.proofs.lemmas.Iterator.{YieldsList-from_slice}
use Rattle.std.proofs.lemmas.Iterator.Adapters.{option_map_id}
use Rattle.std.proofs.lemmas.Iterator.Consumers.{YieldsList-from_copied, YieldsList-at}
use Rattle.std.proofs.lemmas.Iterator.Search.{find_from_yields_List}
use Rattle.from_fields.specs.Numbers.{numbers_of}
use Rattle.from_fields.specs.Naming.{natural, bad_flag}
use Rattle.from_fields.proofs.kinds.first_bad.Goals as goal

abbrev above : List ℤ → ℕ → Bool
above zs k = not (leb (natural zs (k - 1)) 1)

first_above : (ks : List ℕ) (zs : List ℤ) → find (above zs) ks ≡ bad_flag ks zs
first_above [] zs = refl
first_above (k ∷ ks) zs = search (rules, tests, first_above ks zs)

pub returns : goal.returns
returns c =
    let zs = numbers_of c.args.fields.now in
    sym (option_map_id c.find.result)
    ∙ find_from_yields_List (above zs) _ _ c.find.result c.find.ensures.ran
    (YieldsList-from_copied (YieldsList-at c.copied.ensures.source (YieldsList-from_slice c.args.flags.now (cc)))) (λ x b q k. search (rules, tests))
    ∙ first_above c.args.flags.now zs

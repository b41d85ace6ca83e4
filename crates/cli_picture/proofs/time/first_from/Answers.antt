use Rattle.std.proofs.Common.{◌∙◌, nat_le, rules, tests}
use Rattle.std.proofs.lemmas.Iterator.{YieldsList-from_slice}
use Rattle.std.proofs.lemmas.Iterator.Search.{find_from_yields_List}
use Rattle.cli_picture.proofs.time.first_from.Goals as goal

pub returns-clause-exact : goal.returns-clause-exact
returns-clause-exact c =
    c.copied.ensures
    ∙ find_from_yields_List (nat_le c.args.least_ms) _ _ c.find.result c.find.ensures.ran
    (YieldsList-from_slice c.args.steps_ms.now cc) (λ x b q k. search (rules, tests))

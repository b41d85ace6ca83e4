use Rattle.std.proofs.Common.{◌∙◌, arith, rules, tests}
use Rattle.std.proofs.lemmas.Bool.Decides.{nat_tests}
use Rattle.std.proofs.lemmas.Iterator.{YieldsList-from_slice}
use Rattle.std.proofs.lemmas.Iterator.Search.{all_from_yields_List}
use Rattle.std.specs.Char.{is_ascii_alphanumeric}
use Rattle.rbc_line.proofs.limits.is_name.Goals as goal
use Rattle.rbc_line.proofs.Twice.{is_name-fits}

pub returns : goal.returns
returns c =
    all_from_yields_List is_ascii_alphanumeric _ _ _ c.all.ensures.ran (YieldsList-from_slice c.args.name.now cc)
    (λ x b q k. search (rules, tests))
    ∙ is_name-fits c.args.name.now (grind (arith, nat_tests)) (omega arith)

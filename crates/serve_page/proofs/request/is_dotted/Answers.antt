use Rattle.std.proofs.Common.{rules, tests}
use Rattle.std.proofs.lemmas.Iterator.{YieldsList-from_slice}
use Rattle.std.proofs.lemmas.Iterator.Search.{all_from_yields_List}
use Rattle.serve_page.proofs.request.is_dotted.Goals as goal
use Rattle.serve_page.specs.Requests.{is_digit_or_dot}

pub returns : goal.returns
returns c =
    all_from_yields_List is_digit_or_dot _ _ _ c.all.ensures.ran (YieldsList-from_slice c.args.text.now cc)
    (λ x b q k. search (rules, tests))

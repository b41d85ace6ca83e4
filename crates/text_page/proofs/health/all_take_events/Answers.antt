use Rattle.std.proofs.Common.{rules, tests}
use Rattle.std.proofs.lemmas.Iterator.{YieldsList-from_slice}
use Rattle.std.proofs.lemmas.Iterator.Search.{all_from_yields_List}
use Rattle.text_page.specs.Health.{takes_events}
use Rattle.text_page.proofs.health.all_take_events.Goals as goal

pub returns : goal.returns
returns c =
    all_from_yields_List takes_events _ _ _ c.all.ensures.ran (YieldsList-from_slice c.args.centres.now cc)
    (λ x b q k. search (rules, tests))

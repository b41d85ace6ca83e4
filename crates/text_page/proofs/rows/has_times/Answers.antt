use Rattle.std.proofs.Common.{is_some, rules, tests}
use Rattle.std.proofs.lemmas.Iterator.{YieldsList-from_slice}
use Rattle.std.proofs.lemmas.Iterator.Search.{any_from_yields_List}
use Rattle.text_page.proofs.rows.has_times.Goals as goal
use Rattle.text_page.specs.declared.view.EventNow.{EventNow}

pub returns : goal.returns
returns c =
    any_from_yields_List (λ (event : EventNow). is_some event.time_ms) _ _ _ c.any.ensures.ran
    (YieldsList-from_slice c.args.events.now cc) (λ x b q k. search (rules, tests))

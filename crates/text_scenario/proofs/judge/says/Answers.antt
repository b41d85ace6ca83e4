use Rattle.std.proofs.Common.{◌&&◌, ◌==◌, ◌∙◌, ap, rules, sym, tests}
use Rattle.std.proofs.lemmas.Iterator.{YieldsList-from_slice}
use Rattle.std.proofs.lemmas.Iterator.Search.{any_from_yields_List}
use Rattle.std.specs.List.{list_any}
use Rattle.text_scenario.proofs.judge.says.Goals as goal
use Rattle.text_scenario.proofs.Seen.{said_any}
use Rattle.text_scenario.specs.Meets.{fits}

pub returns : goal.returns
returns c =
    any_from_yields_List (λ s. (s.nid_engine == c.args.nid_engine) && fits c.args.line.now c.args.message s.message) _ _
    _ c.any.ensures.ran (YieldsList-from_slice c.deref.result.now cc) (λ x b q k. search (rules, tests))
    ∙ ap (list_any (λ s. (s.nid_engine == c.args.nid_engine) && fits c.args.line.now c.args.message s.message))
    c.deref.ensures.0
    ∙ sym (said_any c.args.line.now c.args.message c.args.nid_engine c.args.outcome.now.sayings.items)

use Rattle.std.proofs.Common.{◌==◌, ◌∙◌, rules, sym, tests}
use Rattle.std.proofs.lemmas.Iterator.{YieldsList-from_slice}
use Rattle.std.proofs.lemmas.Iterator.Search.{any_from_yields_List}
use Rattle.rbc_line.proofs.faults.has_section.Goals as goal
use Rattle.rbc_line.proofs.Lists.{list_any-map}
use Rattle.rbc_line.specs.DraftViews.{section_view}

pub returns : goal.returns
returns c =
    any_from_yields_List (λ row. row.track == c.args.track) _ _ _ c.any.ensures.ran
    (YieldsList-from_slice c.args.sections.now cc) (λ x b q k. search (rules, tests))
    ∙ sym (list_any-map (λ v. v.track == c.args.track) section_view c.args.sections.now)

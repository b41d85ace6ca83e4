use Rattle.std.proofs.Common.{◌∙◌, rules, sym, tests}
use Rattle.std.proofs.lemmas.Iterator.{YieldsList-from_slice}
use Rattle.std.proofs.lemmas.Iterator.Search.{any_from_yields_List}
use Rattle.rbc_line.proofs.faults.has_length_fault.Goals as goal
use Rattle.rbc_line.proofs.Lists.{list_any-map}
use Rattle.rbc_line.specs.DraftViews.{section_view}
use Rattle.rbc_line.specs.Faults.{has_length_fault, is_outside}

pub returns : goal.returns
unfolding has_length_fault
returns c =
    any_from_yields_List (λ row. is_outside 100 2000 row.metres) _ _ _ c.any.ensures.ran
    (YieldsList-from_slice c.args.draft.now.tracks.sections.items cc) (λ x b q k. search (rules, tests))
    ∙ sym (list_any-map (λ v. is_outside 100 2000 v.metres) section_view c.args.draft.now.tracks.sections.items)

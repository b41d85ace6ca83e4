use Rattle.std.proofs.Common.{◌∙◌, rules, sym, tests}
use Rattle.std.proofs.lemmas.Iterator.{YieldsList-from_slice}
use Rattle.std.proofs.lemmas.Iterator.Search.{any_from_yields_List}
use Rattle.rbc_line.proofs.faults.has_engine_fault.Goals as goal
use Rattle.rbc_line.proofs.Lists.{list_any-map}
use Rattle.rbc_line.specs.DraftViews.{train_view}
use Rattle.rbc_line.specs.Faults.{is_outside}

pub returns : goal.returns
returns c =
    any_from_yields_List (λ row. is_outside 0 16777215 row.engine) _ _ _ c.any.ensures.ran
    (YieldsList-from_slice c.args.trains.now cc) (λ x b q k. search (rules, tests))
    ∙ sym (list_any-map (λ v. is_outside 0 16777215 v.engine) train_view c.args.trains.now)

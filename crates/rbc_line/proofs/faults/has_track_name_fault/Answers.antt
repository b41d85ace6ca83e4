use Rattle.std.proofs.Common.{◌∙◌, not, rules, sym, tests}
use Rattle.std.proofs.lemmas.Iterator.{YieldsList-from_slice}
use Rattle.std.proofs.lemmas.Iterator.Search.{any_from_yields_List}
use Rattle.rbc_line.proofs.faults.has_track_name_fault.Goals as goal
use Rattle.rbc_line.proofs.Lists.{list_any-map}
use Rattle.rbc_line.specs.Faults.{is_name}

pub returns : goal.returns
returns c =
    any_from_yields_List (λ row. not (is_name row.now)) _ _ _ c.any.ensures.ran
    (YieldsList-from_slice c.args.names.now cc) (λ x b q k. search (rules, tests))
    ∙ sym (list_any-map (λ v. not (is_name v)) (λ name. name.now) c.args.names.now)

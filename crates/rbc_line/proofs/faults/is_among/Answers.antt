use Rattle.std.proofs.Common.{◌∙◌, rules, sym, tests}
use Rattle.std.proofs.lemmas.Iterator.{YieldsList-from_slice}
use Rattle.std.proofs.lemmas.Iterator.Search.{any_from_yields_List}
use Rattle.std.specs.Str.{bytes_eq}
use Rattle.rbc_line.proofs.faults.is_among.Goals as goal
use Rattle.rbc_line.proofs.Lists.{list_any-map}

pub returns : goal.returns
returns c =
    any_from_yields_List (λ row. bytes_eq c.args.name.now row.now) _ _ _ c.any.ensures.ran
    (YieldsList-from_slice c.args.names.now cc) (λ x b q k. search (rules, tests))
    ∙ sym (list_any-map (λ v. bytes_eq c.args.name.now v) (λ other. other.now) c.args.names.now)

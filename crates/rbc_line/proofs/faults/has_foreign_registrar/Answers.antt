use Rattle.std.proofs.Common.{◌∙◌, map, not, rules, sym, tests}
use Rattle.std.proofs.lemmas.Iterator.{YieldsList-from_slice}
use Rattle.std.proofs.lemmas.Iterator.Search.{any_from_yields_List}
use Rattle.std.specs.List.{list_any}
use Rattle.std.specs.Str.{bytes_eq}
use Rattle.rbc_line.proofs.faults.has_foreign_registrar.Goals as goal
use Rattle.rbc_line.proofs.Lists.{list_any-map}
use Rattle.rbc_line.specs.DraftViews.{centre_view, train_view}

pub returns : goal.returns
returns c =
    any_from_yields_List (λ row.
    not (list_any (λ p. bytes_eq p.name row.registrar.now) (map centre_view c.args.centres.now))) _ _ _
    c.any.ensures.ran (YieldsList-from_slice c.args.trains.now cc) (λ x b q k. search (rules, tests))
    ∙ sym (list_any-map (λ v. not (list_any (λ p. bytes_eq p.name v.registrar) (map centre_view c.args.centres.now)))
    train_view c.args.trains.now)

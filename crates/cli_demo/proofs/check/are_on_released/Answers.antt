use Rattle.std.proofs.Common.{◌&&◌, ◌||◌, ◌∙◌, ap, not, rules, sym, tests}
use Rattle.std.proofs.lemmas.Bool.{le-leb}
use Rattle.std.proofs.lemmas.Iterator.{YieldsList-from_slice, YieldsList-from_zip}
use Rattle.std.proofs.lemmas.Iterator.Search.{all_from_yields_List}
use Rattle.std.specs.List.{list_all, list_any, zip}
use Rattle.cli_demo.proofs.check.are_on_released.Goals as goal
use Rattle.train_unit.specs.Standing.{stands_on}

pub returns-then-sections-released : goal.returns-then-sections-released
returns-then-sections-released c =
    let rows = c.args.sections.now in
    let marks = c.args.released.now in
    (all_from_yields_List {s = c.zip.result} (λ x. x.1 || not (list_any (stands_on x.0) c.args.trains.now))
    c.all.new.self _ c.all.result c.all.ensures.ran
    (YieldsList-from_zip (YieldsList-from_slice rows cc) (YieldsList-from_slice marks cc))
    (λ x b q k. search (rules, tests)))
    ∙ ap (λ b. b && list_all (λ x. x.1 || not (list_any (stands_on x.0) c.args.trains.now)) (zip rows marks))
    (sym (le-leb _ _ c.if-sections-released.true))

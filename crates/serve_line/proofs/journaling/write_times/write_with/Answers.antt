use Rattle.std.proofs.Common.{◌∙◌, rules, tests}
use Rattle.std.proofs.lemmas.Iterator.{YieldsList-from_slice}
use Rattle.std.proofs.lemmas.Iterator.Search.{find_from_yields_List}
use Rattle.serve_line.proofs.journaling.write_times.write_with.Goals as goal
use Rattle.serve_line.specs.Journaling.Times.{has_place}

pub returns : goal.returns
returns c =
    c.copied.ensures
    ∙ find_from_yields_List (has_place c.args.place) _ _ c.find.result c.find.ensures.ran
    (YieldsList-from_slice c.args.writes.now cc) (λ x b q k. search (rules, tests))

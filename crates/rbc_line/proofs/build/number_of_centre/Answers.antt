use Rattle.std.proofs.Common.{◌∙◌, map, rules, sym, tests}
use Rattle.std.proofs.lemmas.Iterator.{YieldsList-from_slice}
use Rattle.std.proofs.lemmas.Iterator.Search.{position_from_yields_List}
use Rattle.std.specs.Str.{bytes_eq}
use Rattle.rbc_line.proofs.build.number_of_centre.Goals as goal
use Rattle.rbc_line.proofs.BuildSteps.{centre_number-at, known_has_place}
use Rattle.rbc_line.proofs.Lists.{position-map}
use Rattle.rbc_line.specs.DraftViews.{centre_view}

pub unreachable-requires : goal.unreachable-requires
unreachable-requires c =
    known_has_place (map centre_view c.args.centres.now) c.args.name.now c.requires.known
    (position_from_yields_List (λ row. bytes_eq row.name.now c.args.name.now) _ _ _ c.in-None.ensures.ran
    (YieldsList-from_slice c.args.centres.now cc) (λ x b q k. search (rules, tests))
    ∙ sym (position-map (λ p. bytes_eq p.name c.args.name.now) centre_view c.args.centres.now))

pub returns : goal.returns
returns c =
    centre_number-at (map centre_view c.args.centres.now) c.args.name.now c.in-Some.c
    (position_from_yields_List (λ row. bytes_eq row.name.now c.args.name.now) _ _ _ c.in-Some.ensures.ran
    (YieldsList-from_slice c.args.centres.now cc) (λ x b q k. search (rules, tests))
    ∙ sym (position-map (λ p. bytes_eq p.name c.args.name.now) centre_view c.args.centres.now))

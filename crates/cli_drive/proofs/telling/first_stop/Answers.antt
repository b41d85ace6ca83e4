use Rattle.std.proofs.Common.{◌∙◌, map, rules, sym, tests}
use Rattle.std.proofs.lemmas.Iterator.{YieldsList-from_slice}
use Rattle.std.proofs.lemmas.Iterator.Adapters.{position_from-zero}
use Rattle.std.proofs.lemmas.Iterator.Search.{position_from_yields_List}
use Rattle.cli_drive.proofs.telling.first_stop.Goals as goal
use Rattle.cli_drive.proofs.Views.{position_of_map}
use Rattle.cli_drive.specs.Answers.{is_stop}

pub returns-clause-place : goal.returns-clause-place
returns-clause-place c =
    position_from_yields_List (λ line. is_stop line.now) _ _ _ c.position.ensures.ran
    (YieldsList-from_slice c.args.lines.now cc) (λ x b q k. search (rules, tests))
    ∙ position_from-zero (λ line. is_stop line.now) c.args.lines.now
    ∙ sym (position_of_map is_stop (λ line. line.now) 0 c.args.lines.now)
    ∙ sym (position_from-zero is_stop (map (λ line. line.now) c.args.lines.now))

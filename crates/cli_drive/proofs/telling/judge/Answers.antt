use Rattle.std.proofs.Common.{◌∙◌, ◌≡◌, ap, map, rules, sym, tests}
use Rattle.cli_drive.proofs.telling.judge.Goals as goal
use Rattle.cli_drive.proofs.Views.{judged_of_map}
use Rattle.cli_drive.specs.Answers.{judged}
use Rattle.cli_drive.specs.Lines.{rows}

pub returns : goal.returns
returns c =
    let texts : map (λ row. row.now) c.deref.result.now ≡ rows c.args.answers.now = search (rules, tests) in
    c.judged.ensures
    ∙ sym (judged_of_map (λ text. text.now) c.args.lines.now c.deref.result.now)
    ∙ ap (λ rows. judged (map (λ line. line.now) c.args.lines.now) rows) texts

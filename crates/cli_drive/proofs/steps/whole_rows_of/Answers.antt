use Rattle.std.proofs.Common.{◌≡◌, ◌==◌, true, false, cond, map, length, sym, ◌∙◌, ap, rules, tests}
use Rattle.cli_drive.proofs.Reading.{whole_rows_split}
use Rattle.cli_drive.proofs.steps.whole_rows_of.Goals as goal

pub returns-then-is_empty : goal.returns-then-is_empty
returns-then-is_empty c =
    let empty : (length c.in-Some.last.now.now == 0) ≡ true = search (rules, tests) in
    sym (whole_rows_split c.args.rows.now c.in-Some.before.now c.in-Some.last.now c.in-Some.ensures.cases.0
    ∙ ap (λ t. cond t (map (λ row. row.now) c.in-Some.before.now) (map (λ row. row.now) c.args.rows.now)) empty)

pub returns : goal.returns
returns c =
    let some : (length c.in-Some.last.now.now == 0) ≡ false = search (rules, tests) in
    sym (whole_rows_split c.args.rows.now c.in-Some.before.now c.in-Some.last.now c.in-Some.ensures.cases.0
    ∙ ap (λ t. cond t (map (λ row. row.now) c.in-Some.before.now) (map (λ row. row.now) c.args.rows.now)) some)

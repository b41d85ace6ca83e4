use Rattle.std.proofs.Common.{◌∷◌, ◌≡◌, map, rules}
use Rattle.rbc_log.proofs.merging.+are_of_line.Goals as goal
use Rattle.rbc_log.proofs.Sides.{of_line_then}

pub returns-then-is_of_line : goal.returns-then-is_of_line
returns-then-is_of_line t c =
    let is : map (λ l. l.now) c.args.logs.now ≡ c.in-Some.first.now.now ∷ map (λ l. l.now) c.in-Some.rest.now =
    search rules in
    of_line_then (map (λ l. l.now) c.args.logs.now) c.in-Some.first.now.now (map (λ l. l.now) c.in-Some.rest.now) is
    c.args.line.now c.are_of_line.result (c.is_of_line.ensures.0 c.if-is_of_line.true)
    c.are_of_line.ensures

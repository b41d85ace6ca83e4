use Rattle.std.proofs.Common.{◌∙◌, ◌∷◌, ◌≡◌, length, map, refl, rules}
use Rattle.std.proofs.lemmas.List.{length-map}
use Rattle.rbc_log.proofs.merging.are_of_one_line.Goals as goal
use Rattle.rbc_log.proofs.Sides.{one_line_none, one_line_some}

pub returns-in-Some : goal.returns-in-Some
returns-in-Some c =
    let is : map (λ l. l.now) c.args.logs.now ≡ c.in-Some.first.now.now ∷ map (λ l. l.now) c.in-Some.rest.now =
    search rules in
    one_line_some (map (λ l. l.now) c.args.logs.now) c.in-Some.first.now.now (map (λ l. l.now) c.in-Some.rest.now) is
    c.line.result.now c.are_of_line.result c.line.ensures.value
    c.are_of_line.ensures

pub returns-in-None : goal.returns-in-None
returns-in-None c =
    let none : length c.args.logs.now ≡ 0 = search rules in
    (λ h. one_line_none (map (λ l. l.now) c.args.logs.now) (length-map c.args.logs.now (λ l. l.now) ∙ none), λ h. refl)

use Rattle.std.proofs.Common.{◌∷◌, ◌≡◌, map, not, rules, subst, true}
use Rattle.rbc_log.proofs.merging.+are_of_centres.Goals as goal
use Rattle.rbc_log.proofs.Sides.{distinct_else, distinct_then}

pub returns-then-not-has_centre : goal.returns-then-not-has_centre
returns-then-not-has_centre t c =
    let is : map (λ l. l.now) c.args.logs.now ≡ c.in-Some.first.now.now ∷ map (λ l. l.now) c.in-Some.rest.now =
    search rules in
    distinct_then (map (λ l. l.now) c.args.logs.now) c.in-Some.first.now.now (map (λ l. l.now) c.in-Some.rest.now) is
    c.number.result c.has_centre.result c.are_of_centres.result c.number.ensures
    c.has_centre.ensures c.if-not-has_centre.true c.are_of_centres.ensures

pub returns-else-not-has_centre : goal.returns-else-not-has_centre
returns-else-not-has_centre t c =
    let is : map (λ l. l.now) c.args.logs.now ≡ c.in-Some.first.now.now ∷ map (λ l. l.now) c.in-Some.rest.now =
    search rules in (
      λ h. let wrong : not true ≡ true = subst (λ b. not b ≡ true) c.if-not-has_centre.false h in absurd cc,
      λ h. absurd (distinct_else (map (λ l. l.now) c.args.logs.now) c.in-Some.first.now.now
          (map (λ l. l.now) c.in-Some.rest.now) is c.number.result c.has_centre.result c.number.ensures
          c.has_centre.ensures c.if-not-has_centre.false h),
    )

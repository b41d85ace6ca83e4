use Rattle.std.proofs.Common.{refl, true, false}
use Rattle.text_fields.specs.Messages.{sections_shown}
use Rattle.text_fields.proofs.Steps.{taken_as}
use Rattle.text_fields.proofs.walk.Walk.sections.Goals as goal

pub returns-then-not-branch-clause-shows : goal.returns-then-not-branch-clause-shows
returns-then-not-branch-clause-shows c =
    taken_as sections_shown _ _ _ _ c.in_ok-rows.field-0 false c.if-not-branch.true
    (c.in_ok-rows.ensures.shows sections_shown (refl, refl, (refl, refl, (refl, refl, (refl, refl, tt)))))

pub returns-then-self-ne0-clause-shows : goal.returns-then-self-ne0-clause-shows
returns-then-self-ne0-clause-shows c = λ rest n. absurd (c.if-self-ne0.true
    (c.in_ok-rows.ensures.last sections_shown rest (refl, refl, (refl, refl, (refl, refl, (refl, refl, tt)))) n))

pub returns-clause-shows : goal.returns-clause-shows
returns-clause-shows c =
    taken_as sections_shown _ _ _ _ c.in_ok-rows.field-0 true c.if-not-branch.false
    (c.in_ok-rows.ensures.shows sections_shown (refl, refl, (refl, refl, (refl, refl, (refl, refl, tt)))))

use Rattle.std.proofs.Common.{◌∙◌, ◌≡◌, arith, sym}
use Rattle.rbc_place.proofs.sections.track_end.Goals as goal
use Rattle.rbc_place.proofs.sections.track_end.Goals.{else-in_rear-gt0-via-else-in_rear-gt0}
use Rattle.rbc_place.proofs.sections.track_end.Goals.{else-in_rear-gt0-via-then-in_rear-gt0+else-is_on}
use Rattle.rbc_place.proofs.TrackEnd.{ends_nowhere, ends_with}

pub returns-then-is_on-clause-value : goal.returns-then-is_on-clause-value
returns-then-is_on-clause-value c =
    let line = c.args.line.now in
    let r = c.from-in_rear.result in
    let same : r ≡ c.first_ahead.result = c.from-in_rear.ensures in
    c.section_end.ensures.value ∙ ends_with line c.args.track r (omega (arith, same, c.first_ahead.ensures.bound))
    (λ s le. c.first_ahead.ensures.ahead s (omega (arith, same))) c.if-in_rear-gt0.true
    (sym c.is_on.ensures ∙ c.if-is_on.true)

pub returns-else-in_rear-gt0-clause-value : goal.returns-else-in_rear-gt0-clause-value
returns-else-in_rear-gt0-clause-value c =
    let line = c.args.line.now in
    let r = c.from-in_rear.result in
    let same : r ≡ c.first_ahead.result = c.from-in_rear.ensures in
    ends_nowhere line c.first_ahead.ensures.line c.args.track r (omega (arith, same, c.first_ahead.ensures.bound))
    (λ s lt. c.first_ahead.ensures.in_rear s (omega (arith, same)))
    (λ s le. c.first_ahead.ensures.ahead s (omega (arith, same)))
    (λ some. elim c.else-in_rear-gt0.branch [
      | else-in_rear-gt0-via-then-in_rear-gt0+else-is_on w ↦ sym w.is_on.ensures ∙ w.if-is_on.false
      | else-in_rear-gt0-via-else-in_rear-gt0 w ↦ absurd (omega (arith, w.if-in_rear-gt0.false))
    ])

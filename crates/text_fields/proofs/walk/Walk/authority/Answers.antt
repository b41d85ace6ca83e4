use Rattle.std.proofs.Common.{ℕ, List, ◌∷◌, [], codes, true, false}
use Rattle.std.proofs.lemmas.Result.{IfOk-weaker}
use Rattle.text_fields.specs.Named.{Named}
use Rattle.text_fields.specs.Messages.{sections_shown}
use Rattle.text_fields.proofs.Steps.{takes_both, not_taken, taken_as}
use Rattle.text_fields.proofs.walk.Walk.authority.Goals as goal

abbrev l_endsection : ℕ → List Named
l_endsection l = record { name = codes "L_ENDSECTION"; field = (15, l) } ∷ []

abbrev flag : List ℕ → List Named
flag name = record { name = name; field = (1, 0) } ∷ []

pub returns-then-not-branch-clause-shows : goal.returns-then-not-branch-clause-shows
returns-then-not-branch-clause-shows c = λ l.
    not_taken (sections_shown) _ c.args.self.now.look c.sections.new.self.look c.sections.new.self.look
    c.args.self.now.end c.sections.new.self.end c.sections.new.self.end
    (taken_as _ _ _ _ _ _ false c.if-not-branch.true c.in_ok-sections.ensures.shows)

pub returns-then-not-branch-2-clause-shows : goal.returns-then-not-branch-2-clause-shows
returns-then-not-branch-2-clause-shows c = λ l.
    takes_both (sections_shown) _ c.args.self.now.look c.sections.new.self.look c.take.new.self.look
    c.args.self.now.end c.sections.new.self.end c.take.new.self.end false
    (taken_as _ _ _ _ _ _ true c.if-not-branch.false c.in_ok-sections.ensures.shows)
    (not_taken (l_endsection l) _ c.sections.new.self.look c.take.new.self.look c.take.new.self.look
    c.sections.new.self.end c.take.new.self.end c.take.new.self.end
    (taken_as _ _ _ _ _ _ false c.if-not-branch-2.true (c.in_ok-take.ensures.shows l)))

pub returns-then-not-branch-3-clause-shows : goal.returns-then-not-branch-3-clause-shows
returns-then-not-branch-3-clause-shows c = λ l.
    takes_both (sections_shown) _ c.args.self.now.look c.sections.new.self.look c.section_timer.new.self.look
    c.args.self.now.end c.sections.new.self.end c.section_timer.new.self.end false
    (taken_as _ _ _ _ _ _ true c.if-not-branch.false c.in_ok-sections.ensures.shows)
    (takes_both (l_endsection l) _ c.sections.new.self.look c.take.new.self.look c.section_timer.new.self.look
    c.sections.new.self.end c.take.new.self.end c.section_timer.new.self.end false
    (taken_as _ _ _ _ _ _ true c.if-not-branch-2.false (c.in_ok-take.ensures.shows l))
    (not_taken (flag (codes "Q_SECTIONTIMER")) _ c.take.new.self.look c.section_timer.new.self.look
    c.section_timer.new.self.look c.take.new.self.end c.section_timer.new.self.end c.section_timer.new.self.end
    (taken_as _ _ _ _ _ _ false c.if-not-branch-3.true c.in_ok-section_timer.ensures.shows)))

pub returns-then-not-branch-4-clause-shows : goal.returns-then-not-branch-4-clause-shows
returns-then-not-branch-4-clause-shows c = λ l.
    takes_both (sections_shown) _ c.args.self.now.look c.sections.new.self.look c.end_timer.new.self.look
    c.args.self.now.end c.sections.new.self.end c.end_timer.new.self.end false
    (taken_as _ _ _ _ _ _ true c.if-not-branch.false c.in_ok-sections.ensures.shows)
    (takes_both (l_endsection l) _ c.sections.new.self.look c.take.new.self.look c.end_timer.new.self.look
    c.sections.new.self.end c.take.new.self.end c.end_timer.new.self.end false
    (taken_as _ _ _ _ _ _ true c.if-not-branch-2.false (c.in_ok-take.ensures.shows l))
    (takes_both (flag (codes "Q_SECTIONTIMER")) _ c.take.new.self.look c.section_timer.new.self.look
    c.end_timer.new.self.look c.take.new.self.end c.section_timer.new.self.end c.end_timer.new.self.end false
    (taken_as _ _ _ _ _ _ true c.if-not-branch-3.false c.in_ok-section_timer.ensures.shows)
    (not_taken (flag (codes "Q_ENDTIMER")) _ c.section_timer.new.self.look c.end_timer.new.self.look
    c.end_timer.new.self.look c.section_timer.new.self.end c.end_timer.new.self.end c.end_timer.new.self.end
    (taken_as _ _ _ _ _ _ false c.if-not-branch-4.true c.in_ok-end_timer.ensures.shows))))

pub returns-then-not-branch-5-clause-shows : goal.returns-then-not-branch-5-clause-shows
returns-then-not-branch-5-clause-shows c = λ l.
    takes_both (sections_shown) _ c.args.self.now.look c.sections.new.self.look c.danger_point.new.self.look
    c.args.self.now.end c.sections.new.self.end c.danger_point.new.self.end false
    (taken_as _ _ _ _ _ _ true c.if-not-branch.false c.in_ok-sections.ensures.shows)
    (takes_both (l_endsection l) _ c.sections.new.self.look c.take.new.self.look c.danger_point.new.self.look
    c.sections.new.self.end c.take.new.self.end c.danger_point.new.self.end false
    (taken_as _ _ _ _ _ _ true c.if-not-branch-2.false (c.in_ok-take.ensures.shows l))
    (takes_both (flag (codes "Q_SECTIONTIMER")) _ c.take.new.self.look c.section_timer.new.self.look
    c.danger_point.new.self.look c.take.new.self.end c.section_timer.new.self.end c.danger_point.new.self.end false
    (taken_as _ _ _ _ _ _ true c.if-not-branch-3.false c.in_ok-section_timer.ensures.shows)
    (takes_both (flag (codes "Q_ENDTIMER")) _ c.section_timer.new.self.look c.end_timer.new.self.look
    c.danger_point.new.self.look c.section_timer.new.self.end c.end_timer.new.self.end
    c.danger_point.new.self.end false
    (taken_as _ _ _ _ _ _ true c.if-not-branch-4.false c.in_ok-end_timer.ensures.shows)
    (not_taken (flag (codes "Q_DANGERPOINT")) _ c.end_timer.new.self.look c.danger_point.new.self.look
    c.danger_point.new.self.look c.end_timer.new.self.end c.danger_point.new.self.end c.danger_point.new.self.end
    (taken_as _ _ _ _ _ _ false c.if-not-branch-5.true c.in_ok-danger_point.ensures.shows)))))

pub returns-clause-shows : goal.returns-clause-shows
returns-clause-shows c =
    IfOk-weaker c.overlap.result _ _ (λ there h l.
    takes_both (sections_shown) _ c.args.self.now.look c.sections.new.self.look c.overlap.new.self.look
    c.args.self.now.end c.sections.new.self.end c.overlap.new.self.end there
    (taken_as _ _ _ _ _ _ true c.if-not-branch.false c.in_ok-sections.ensures.shows)
    (takes_both (l_endsection l) _ c.sections.new.self.look c.take.new.self.look c.overlap.new.self.look
    c.sections.new.self.end c.take.new.self.end c.overlap.new.self.end there
    (taken_as _ _ _ _ _ _ true c.if-not-branch-2.false (c.in_ok-take.ensures.shows l))
    (takes_both (flag (codes "Q_SECTIONTIMER")) _ c.take.new.self.look c.section_timer.new.self.look
    c.overlap.new.self.look c.take.new.self.end c.section_timer.new.self.end c.overlap.new.self.end there
    (taken_as _ _ _ _ _ _ true c.if-not-branch-3.false c.in_ok-section_timer.ensures.shows)
    (takes_both (flag (codes "Q_ENDTIMER")) _ c.section_timer.new.self.look c.end_timer.new.self.look
    c.overlap.new.self.look c.section_timer.new.self.end c.end_timer.new.self.end c.overlap.new.self.end there
    (taken_as _ _ _ _ _ _ true c.if-not-branch-4.false c.in_ok-end_timer.ensures.shows)
    (takes_both (flag (codes "Q_DANGERPOINT")) _ c.end_timer.new.self.look c.danger_point.new.self.look
    c.overlap.new.self.look c.end_timer.new.self.end c.danger_point.new.self.end c.overlap.new.self.end there
    (taken_as _ _ _ _ _ _ true c.if-not-branch-5.false c.in_ok-danger_point.ensures.shows)
    (h)))))) c.overlap.ensures.shows

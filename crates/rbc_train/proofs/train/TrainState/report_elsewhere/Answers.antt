use Rattle.std.proofs.Common.{◌&&◌, ◌∙◌, ap, Ok, Some, sym}
use Rattle.std.specs.List.{list_any, range_with_len}
use Rattle.rbc_msgs.specs.StepMessage.{position_of}
use Rattle.rbc_spec.specs.Line.{is_home}
use Rattle.rbc_spec.specs.Maps.{has}
use Rattle.rbc_spec.specs.Place.{extent, has_front}
use Rattle.rbc_spec.specs.Sections.{section_count}
use Rattle.rbc_train.proofs.Desk.{has_expectations}
use Rattle.rbc_train.proofs.Reports.{not_supervised, takes_over}
use Rattle.rbc_train.proofs.train.TrainState.report_elsewhere.Goals as goal
use Rattle.rbc_train.specs.declared.heard.Heard.{Heard}
use Rattle.rbc_train.specs.declared.mail.Notice.TheVariants as notice
use Rattle.rbc_train.specs.Desk.{effect_left, with_parts}

pub returns-then-not-is_expected-clause-exact : goal.returns-then-not-is_expected-clause-exact
returns-then-not-is_expected-clause-exact c = λ book rights k h.
    let line = c.args.line.now in
    let n = c.args.centre in
    let p = c.args.self.now in
    let position = position_of c.args.position.now in
    not_supervised line n k c.args.t_train p book rights position h c.requires.up c.requires.none
    (ap
    (λ b. b && has (λ q. list_any (λ s. is_home line n s && has_front line q s) (range_with_len 0 (section_count line)))
    (extent line position))
    (sym (c.is_expected.ensures.exact line p.supervision.engine k (has_expectations line n k p book rights h.parts))
    ∙ c.if-not-is_expected.true))

pub returns-then-not-is_in_area-clause-exact : goal.returns-then-not-is_in_area-clause-exact
returns-then-not-is_in_area-clause-exact c = λ book rights k h.
    let line = c.args.line.now in
    let n = c.args.centre in
    let p = c.args.self.now in
    not_supervised line n k c.args.t_train p book rights
    (position_of c.args.position.now) h c.requires.up c.requires.none
    ((λ i.
    sym (c.is_expected.ensures.exact line p.supervision.engine k (has_expectations line n k p book rights h.parts)) i
    && sym c.is_in_area.ensures i)
    ∙ (λ i. c.if-not-is_expected.false i && c.if-not-is_in_area.true i))

pub returns-clause-exact : goal.returns-clause-exact
returns-clause-exact c = λ book rights k h.
    let line = c.args.line.now in
    let n = c.args.centre in
    let p = c.args.self.now in
    let t = p.supervision.engine in
    takes_over line n k c.args.t_train p book rights
    (position_of c.args.position.now) h c.take_over.new.self c.take_over.result c.requires.up c.requires.none
    ((λ i. sym (c.is_expected.ensures.exact line t k (has_expectations line n k p book rights h.parts)) i
    && sym c.is_in_area.ensures i)
    ∙ (λ i. c.if-not-is_expected.false i && c.if-not-is_in_area.false i))
    (λ j there. c.take_over.ensures.exact line t j there)
    ∙ ap (λ (x : Heard). effect_left line n t
    (with_parts (record p { heard = Some c.args.t_train; expectations = c.take_over.new.self }) book rights k)
    (Ok (record x { mail = record x.mail { notice = notice.TakingOver c.take_over.result } }))) (sym c.requires.out)

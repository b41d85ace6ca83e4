use Rattle.std.proofs.Common.{◌∙◌, ap, option_map, refl, sym}
use Rattle.std.proofs.lemmas.Result.{err_from_is_err_and}
use Rattle.rbc_msgs.specs.StepMessage.{position_of}
use Rattle.rbc_place.specs.Places.{place_of}
use Rattle.rbc_spec.specs.Message.{Report}
use Rattle.rbc_train.proofs.Reports.{on_track, reports}
use Rattle.rbc_train.proofs.train.TrainState.report.Goals as goal
use Rattle.rbc_train.proofs.Unanswered.{no_session}
use Rattle.rbc_train.specs.Guards.{mission_in}

pub report_elsewhere-requires-clause-up : goal.report_elsewhere-requires-clause-up
report_elsewhere-requires-clause-up c = c.in_ok-up.ensures

pub report_elsewhere-requires-clause-none : goal.report_elsewhere-requires-clause-none
report_elsewhere-requires-clause-none c =
    sym c.mission.ensures.value ∙ ap (option_map (mission_in c.args.self.now.supervision)) c.in_default.is

pub returns-clause-exact : goal.returns-clause-exact
returns-clause-exact c = λ k h.
    let line = c.args.line.now in
    let old = c.args.self.now in
    let m = mission_in old.supervision c.in-Some.mission in
    let there = sym c.mission.ensures.value ∙ ap (option_map (mission_in old.supervision)) c.in-Some.is in
    let on = sym c.place_on.ensures.value ∙ ap (option_map place_of) c.in-Some-place_on.is in
    reports line c.args.centre k c.args.t_train old c.args.book.now c.args.registrar.now
    (position_of c.args.position.now) h
    m (place_of c.in-Some-place_on.place) c.clear.new.self c.clear.new.book c.clear.new.registrar c.clear.new.out
    c.in_ok-up.ensures there on c.clear.ensures.keeps.state.train.engine
    (c.clear.ensures.exact m there
    (sym (on_track line m.place.track (position_of c.args.position.now) (place_of c.in-Some-place_on.place) on)))

pub returns-in_err-up-clause-exact : goal.returns-in_err-up-clause-exact
returns-in_err-up-clause-exact c = λ k h.
    let p = err_from_is_err_and c.from_residual.result c.from_residual.ensures.1 in
    rw (p.1, p.2)
    (no_session c.args.line.now c.args.centre k c.args.t_train c.args.self.now c.args.book.now c.args.registrar.now h
    (Report (position_of c.args.position.now)) _ refl (λ j down. rw down refl) _ c.in_err-up.ensures)

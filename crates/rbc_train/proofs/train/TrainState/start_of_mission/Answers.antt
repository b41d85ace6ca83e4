use Rattle.std.proofs.Common.{◌∙◌, ap, Ok, refl, Some, sym}
use Rattle.std.proofs.lemmas.Result.{err_from_is_err_and}
use Rattle.rbc_msgs.specs.StepMessage.{is_valid, position_of}
use Rattle.rbc_place.specs.Places.{place_of}
use Rattle.rbc_spec.specs.Centre.{Centre}
use Rattle.rbc_spec.specs.Message.{StartOfMission, TrainAccepted, TrainRejected}
use Rattle.rbc_train.proofs.Starts.{none_there, starts_answered, starts_waiting}
use Rattle.rbc_train.proofs.train.TrainState.start_of_mission.Goals as goal
use Rattle.rbc_train.proofs.Unanswered.{no_session}
use Rattle.rbc_train.specs.declared.heard.Heard.{Heard}
use Rattle.rbc_train.specs.declared.start_of_mission.Start.{Start}
use Rattle.rbc_train.specs.Desk.{effect_left, with_parts}
use Rattle.rbc_train.specs.Starts.{started}

pub start-requires-clause-none : goal.start-requires-clause-none
start-requires-clause-none c =
    sym c.place.ensures ∙ none_there place_of c.place.result (sym c.is_some.ensures ∙ c.if-is_some.false)

pub returns-in-Accepted-clause-exact : goal.returns-in-Accepted-clause-exact
returns-in-Accepted-clause-exact c = λ k h.
    let old = c.args.self.now in
    starts_answered c.args.line.now c.args.centre k c.args.t_train old c.args.book.now c.args.registrar.now h
    (is_valid c.args.q_status) (position_of c.args.position.now)
    c.start.result c.start.new.self c.start.new.book c.start.new.registrar c.in_ok-up.ensures
    (sym c.place.ensures ∙ none_there place_of c.place.result (sym c.is_some.ensures ∙ c.if-is_some.false))
    c.start.ensures.keeps.state.train.engine c.start.ensures.exact
    TrainAccepted c.answered.new.self (record c.args.out.now { saying = Some c.answered.result })
    (λ (j : Centre). ap (λ (s : Start). started old.supervision.engine s j) c.in-Accepted.is)
    c.answered.ensures.counted c.answered.ensures.said
    (ap (λ (x : Heard). record x { saying = Some c.answered.result }) c.requires.ready.out)

pub returns-in-Rejected-clause-exact : goal.returns-in-Rejected-clause-exact
returns-in-Rejected-clause-exact c = λ k h.
    let old = c.args.self.now in
    starts_answered c.args.line.now c.args.centre k c.args.t_train old c.args.book.now c.args.registrar.now h
    (is_valid c.args.q_status) (position_of c.args.position.now)
    c.start.result c.start.new.self c.start.new.book c.start.new.registrar c.in_ok-up.ensures
    (sym c.place.ensures ∙ none_there place_of c.place.result (sym c.is_some.ensures ∙ c.if-is_some.false))
    c.start.ensures.keeps.state.train.engine c.start.ensures.exact
    TrainRejected c.answered-in-Rejected.new.self
    (record c.args.out.now { saying = Some c.answered-in-Rejected.result })
    (λ (j : Centre). ap (λ (s : Start). started old.supervision.engine s j) c.in-Rejected.is)
    c.answered-in-Rejected.ensures.counted c.answered-in-Rejected.ensures.said
    (ap (λ (x : Heard). record x { saying = Some c.answered-in-Rejected.result }) c.requires.ready.out)

pub returns-in-Waiting-clause-exact : goal.returns-in-Waiting-clause-exact
returns-in-Waiting-clause-exact c = λ k h.
    let old = c.args.self.now in
    starts_waiting c.args.line.now c.args.centre k c.args.t_train old c.args.book.now c.args.registrar.now h
    (is_valid c.args.q_status) (position_of c.args.position.now)
    c.start.result c.start.new.self c.start.new.book c.start.new.registrar c.in_ok-up.ensures
    (sym c.place.ensures ∙ none_there place_of c.place.result (sym c.is_some.ensures ∙ c.if-is_some.false))
    c.start.ensures.keeps.state.train.engine c.start.ensures.exact
    c.in-Waiting.letter c.in-Waiting.is
    ∙ ap (λ (x : Heard). effect_left c.args.line.now c.args.centre old.supervision.engine
    (with_parts c.start.new.self c.start.new.book c.start.new.registrar k)
    (Ok (record x { mail = record x.mail { letter = c.in-Waiting.letter } }))) (sym c.requires.ready.out)

pub returns-in_err-up-clause-exact : goal.returns-in_err-up-clause-exact
returns-in_err-up-clause-exact c = λ k h.
    let p = err_from_is_err_and c.from_residual.result c.from_residual.ensures.1 in
    rw (p.1, p.2)
    (no_session c.args.line.now c.args.centre k c.args.t_train c.args.self.now c.args.book.now c.args.registrar.now h
    (StartOfMission (is_valid c.args.q_status) (position_of c.args.position.now)) _ refl
    (λ j down. rw down refl) _ c.in_err-up.ensures)

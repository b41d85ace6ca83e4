use Rattle.std.proofs.Common.{◌∙◌, ◌≡◌, ap, option_map, refl, sym}
use Rattle.std.proofs.lemmas.Result.{err_from_is_err_and}
use Rattle.rbc_mission.specs.Supervisions.{hand_of, SupervisionState}
use Rattle.rbc_msgs.specs.StepMessage.{position_of}
use Rattle.rbc_spec.specs.Message.{EndOfMission}
use Rattle.rbc_train.proofs.Desk.{by_reply}
use Rattle.rbc_train.proofs.Ends.{ended, ends, ends_ahead, finished}
use Rattle.rbc_train.proofs.Standstill.{keeps_fit}
use Rattle.rbc_train.proofs.train.TrainState.end_of_mission.Goals as goal
use Rattle.rbc_train.proofs.Turns.{parts_heard}
use Rattle.rbc_train.proofs.Unanswered.{no_mission, no_session}
use Rattle.rbc_train.specs.declared.heard.Heard.{Heard}
use Rattle.rbc_train.specs.Desk.{reply_left, with_parts}
use Rattle.rbc_train.specs.Guards.{mission_in}
use Rattle.rbc_train.specs.Standstill.{left_ahead}

pub leave_ahead-requires-clause-keep : goal.leave_ahead-requires-clause-keep
leave_ahead-requires-clause-keep c =
    let old = c.args.self.now in
    let m = mission_in old.supervision c.in_ok-mission.mission in
    let at = c.in_ok-mission.ensures in
    let a = c.in-Some.ensures.some in
    keeps_fit c.args.line.now old.supervision.engine m.place.track
    (position_of c.args.position.now) c.args.book.now c.report_here.new.book old.supervision
    c.report_here.new.self.supervision m c.in-Some.field-0.keep
    c.report_here.new.out.told c.in-Some.field-0.told at a (c.report_here.ensures.front a.place a.at)

pub returns-in-Some-clause-exact : goal.returns-in-Some-clause-exact
returns-in-Some-clause-exact c = λ k h.
    let line = c.args.line.now in
    let n = c.args.centre in
    let old = c.args.self.now in
    let m = mission_in old.supervision c.in_ok-mission.mission in
    let at = c.in_ok-mission.ensures in
    let report = c.report_here in
    let cut = c.leave_ahead in
    let kept =
    report.ensures.stays (parts_heard line n k c.args.t_train old c.args.book.now c.args.registrar.now h.parts).kept in
    ends_ahead line n k c.args.t_train old c.args.book.now c.args.registrar.now (position_of c.args.position.now) h
    m report.new.self report.new.book report.new.registrar report.new.out
    c.in_ok-up.ensures at c.if-mission.false
    report.ensures.keeps.state.train.engine report.ensures.keeps.desk.homes kept
    (report.ensures.exact m at refl) report.ensures.sends.order report.ensures.sends.mail report.ensures.sends.letter
    (λ x stands. report.ensures.track m x at refl stands) report.ensures.front
    c.in-Some.field-0.keep c.in-Some.field-0.told c.in-Some.ensures.some cut.new.self cut.new.book cut.new.registrar
    cut.new.out
    cut.ensures.exact cut.ensures.stays (ap (λ (x : Heard). x.saying) cut.ensures.heard)
    (ap (λ (x : Heard). x.order) cut.ensures.heard) (ap (λ (x : Heard). x.told) cut.ensures.heard)
    (ap (λ (x : Heard). x.mail) cut.ensures.heard)
    cut.ensures.pool cut.ensures.left cut.ensures.keeps.state.train.engine cut.ensures.keeps.desk.homes
    ∙ (λ i.
    by_reply (reply_left line n old.supervision.engine
    (with_parts (record cut.new.self { supervision = sym c.end_mission.ensures i }) cut.new.book cut.new.registrar k)
    (record report.new.out {
      mail = record report.new.out.mail { second = cut.new.out.mail.first; notice = cut.new.out.mail.notice };
      told = c.in-Some.field-0.told;
    })))

pub returns-in-None-clause-exact : goal.returns-in-None-clause-exact
returns-in-None-clause-exact c = λ k h.
    let line = c.args.line.now in
    let n = c.args.centre in
    let old = c.args.self.now in
    let m = mission_in old.supervision c.in_ok-mission.mission in
    let at = c.in_ok-mission.ensures in
    let report = c.report_here in
    let mid = report.new.self in
    let kept =
    report.ensures.stays (parts_heard line n k c.args.t_train old c.args.book.now c.args.registrar.now h.parts).kept in
    let done : c.end_mission-in-None.new.self ≡ finished mid.supervision =
    c.end_mission-in-None.ensures
    ∙ ap (λ (x : SupervisionState). record x { mission = option_map ended x.mission })
    c.return_pool-pool.ensures.state in
    ends line n k c.args.t_train old c.args.book.now c.args.registrar.now (position_of c.args.position.now) h
    m mid report.new.book report.new.registrar report.new.out
    c.in_ok-up.ensures at c.if-mission.false
    report.ensures.keeps.state.train.engine report.ensures.keeps.desk.homes kept
    (report.ensures.exact m at refl) report.ensures.sends.order report.ensures.sends.mail report.ensures.sends.letter
    (λ x stands. report.ensures.track m x at refl stands) report.ensures.front
    c.return_pool-pool.result c.return_pool-pool.ensures.run
    ((λ i. left_ahead line m.place.track (position_of c.args.position.now)
    (hand_of (record old.supervision { mission = sym at i }))) ∙ c.ahead-ahead.ensures.none c.in-None.is)
    ∙ (λ i.
    by_reply (reply_left line n old.supervision.engine
    (with_parts (record mid { supervision = sym done i }) report.new.book report.new.registrar k)
    (record report.new.out { mail = record report.new.out.mail { second = c.return_pool-pool.result } })))

pub returns-in_err-up-clause-exact : goal.returns-in_err-up-clause-exact
returns-in_err-up-clause-exact c = λ k h.
    let p = err_from_is_err_and c.from_residual.result c.from_residual.ensures.1 in
    rw (p.1, p.2)
    (no_session c.args.line.now c.args.centre k c.args.t_train c.args.self.now c.args.book.now c.args.registrar.now h
    (EndOfMission (position_of c.args.position.now)) _ refl (λ j down. rw down refl) _ c.in_err-up.ensures)

pub returns-in_err-mission-clause-exact : goal.returns-in_err-mission-clause-exact
returns-in_err-mission-clause-exact c = λ k h.
    let p = err_from_is_err_and c.from_residual-in_err-mission.result c.from_residual-in_err-mission.ensures.1 in
    rw (p.1, p.2)
    (no_mission c.args.line.now c.args.centre k c.args.t_train c.args.self.now c.args.book.now c.args.registrar.now h
    (EndOfMission (position_of c.args.position.now)) _ refl (λ j up. rw up refl)
    (λ j. refl) c.in_ok-up.ensures _ c.in_err-mission.ensures)

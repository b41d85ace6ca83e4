use Rattle.std.proofs.Common.{◌∙◌, ◌≡◌, ap, option_map, refl, rules, Some, sym, ℕ}
use Rattle.std.proofs.lemmas.Result.{err_from_is_err_and}
use Rattle.rbc_allocation.specs.Sections.{hand_front}
use Rattle.rbc_book.specs.Book.{is_own}
use Rattle.rbc_line.specs.SectionRuns.{run_of}
use Rattle.rbc_mission.specs.Supervisions.{handing_in, mission_of, pool_of, right_left, SupervisionState}
use Rattle.rbc_msgs.specs.StepMessage.{position_of}
use Rattle.rbc_shorten.specs.Answers.{act_of, cut_of}
use Rattle.rbc_shorten.specs.Facts.{proposal_of}
use Rattle.rbc_spec.specs.Line.{is_home}
use Rattle.rbc_spec.specs.Message.{ShorteningGranted}
use Rattle.rbc_spec.specs.Step.{is_unasked}
use Rattle.rbc_train.proofs.Desk.{by_reply}
use Rattle.rbc_train.proofs.Kept.{held_as, keeps_state, still_held}
use Rattle.rbc_train.proofs.Letters.{goes_as}
use Rattle.rbc_train.proofs.Shortened.{asked_is, gives_back, keeps_all, kept_is}
use Rattle.rbc_train.proofs.train.TrainState.shortening_granted.Goals as goal
use Rattle.rbc_train.proofs.Unanswered.{no_mission, no_session}
use Rattle.rbc_train.specs.declared.train.TrainState.{TrainState}
use Rattle.rbc_train.specs.Desk.{reply_left, with_parts}

pub shorten-released-requires-clause-held : goal.shorten-released-requires-clause-held
shorten-released-requires-clause-held c =
    let old = c.args.self.now in
    held_as old.supervision.engine old.supervision.engine (is_home c.args.line.now c.args.centre)
    (is_own c.args.book.now) old.supervision.hand refl c.requires.at.book c.requires.at.held

pub returns-in-Ok-Keep-clause-exact : goal.returns-in-Ok-Keep-clause-exact
returns-in-Ok-Keep-clause-exact c = λ k h.
    let line = c.args.line.now in
    let old = c.args.self.now in
    let hand = c.hand.result in
    let front = c.front_on-front.result in
    let facts = c.in_ok-mission.mission in
    let m = mission_of (run_of hand) (pool_of old.supervision) (handing_in old.supervision) facts in
    let there : old.supervision.mission ≡ Some m =
    c.in_ok-mission.ensures
    ∙ (λ i.
    Some (mission_of (sym c.hand.ensures.value i) (pool_of old.supervision) (handing_in old.supervision) facts)) in
    let position = position_of c.args.position.now in
    let left = c.shorten-released.new.self in
    let asked =
    asked_is (cut_of line (run_of hand) front) facts.proposal c.value.result c.in-Ok-Keep.field-0
    (sym c.granted.ensures.exact ∙ c.in-Ok-Keep.is) in
    let p = proposal_of asked.0 in
    let standing = ap (option_map proposal_of) asked.1 in
    gives_back line c.args.centre k c.args.t_train old c.args.book.now c.args.registrar.now c.args.request position h m
    p
    c.in_ok-up.ensures there standing
    (ap (λ (s : ℕ). is_unasked (Some m) (ShorteningGranted s position)) (sym c.value.ensures.value)
    ∙ sym (c.in-Ok-Keep.ensures.reason m position refl))
    c.in-Ok-Keep.keep left (hand_front c.in-Ok-Keep.keep old.supervision.hand) c.shorten-released.new.book
    c.released.new.registrar c.shorten-released.result.told c.shorten-released.result.cancelled
    c.released.new.out.mail.letter c.shorten-released.result.returned
    (c.in-Ok-Keep.ensures.rules c.args.centre old.supervision.engine position m p
    (record { proposal = standing; place = c.front_on-front.ensures })
    ∙ ap (act_of line c.args.centre old.supervision.engine m p) c.in-Ok-Keep.field-0-is)
    (kept_is line (run_of hand) front asked.0 c.in-Ok-Keep.keep (asked.2 ∙ c.in-Ok-Keep.field-0-is))
    c.requires.at.number
    c.shorten-released.ensures.supervision c.shorten-released.ensures.book c.shorten-released.ensures.told
    c.shorten-released.ensures.returned c.shorten-released.ensures.cancelled
    (goes_as line c.args.centre old.supervision.engine left.engine c.shorten-released.result.right
    (right_left old.supervision left) c.released.new.out.mail.letter c.args.registrar.now c.released.new.registrar
    (ap (λ (x : SupervisionState). x.engine) c.shorten-released.ensures.supervision) c.shorten-released.ensures.right
    c.released.ensures.right)
    c.released.new.out c.released.ensures.heard

pub returns-in-Ok-Nothing-clause-exact : goal.returns-in-Ok-Nothing-clause-exact
returns-in-Ok-Nothing-clause-exact c = λ k h.
    let line = c.args.line.now in
    let old = c.args.self.now in
    let hand = c.hand.result in
    let facts = c.in_ok-mission.mission in
    let m = mission_of (run_of hand) (pool_of old.supervision) (handing_in old.supervision) facts in
    let there : old.supervision.mission ≡ Some m =
    c.in_ok-mission.ensures
    ∙ (λ i.
    Some (mission_of (sym c.hand.ensures.value i) (pool_of old.supervision) (handing_in old.supervision) facts)) in
    let position = position_of c.args.position.now in
    let asked =
    asked_is (cut_of line (run_of hand) c.front_on-front.result) facts.proposal c.value.result c.in-Ok-Nothing.field-0
    (sym c.granted.ensures.exact ∙ c.in-Ok-Nothing.is) in
    let p = proposal_of asked.0 in
    let standing = ap (option_map proposal_of) asked.1 in
    let heard : TrainState = record old { heard = Some c.args.t_train } in
    keeps_all line c.args.centre k c.args.t_train old c.args.book.now c.args.registrar.now c.args.request position h m p
    c.in_ok-up.ensures there standing
    (ap (λ (s : ℕ). is_unasked (Some m) (ShorteningGranted s position)) (sym c.value.ensures.value)
    ∙ sym (c.in-Ok-Nothing.ensures.reason m position refl))
    (c.in-Ok-Nothing.ensures.rules c.args.centre old.supervision.engine position m p
    (record { proposal = standing; place = c.front_on-front.ensures })
    ∙ ap (act_of line c.args.centre old.supervision.engine m p) c.in-Ok-Nothing.field-0-is)
    ∙ (λ i.
    by_reply (reply_left line c.args.centre old.supervision.engine
    (with_parts (record heard { supervision = sym c.forget_proposal.ensures i }) c.args.book.now c.args.registrar.now k)
    (sym c.requires.at.out i)))

pub returns-in-Ok-Keep-clause-keeps : goal.returns-in-Ok-Keep-clause-keeps
returns-in-Ok-Keep-clause-keeps c =
    let old = c.args.self.now in
    let left = c.shorten-released.new.self in
    let engine = ap (λ (x : SupervisionState). x.engine) c.shorten-released.ensures.supervision in
    record {
      state =
          keeps_state c.args.line.now c.args.centre old (Some c.args.t_train) left
          (ap (λ (x : SupervisionState). x.number) c.shorten-released.ensures.supervision) engine
          (held_as old.supervision.engine left.engine (is_own c.shorten-released.new.book)
          (is_home c.args.line.now c.args.centre) left.hand (sym engine)
          (λ s. sym (c.shorten-released.ensures.book.homes s ∙ c.requires.at.book s)) c.shorten-released.ensures.held);
      desk = search rules;
    }

pub returns-in-Ok-Nothing-clause-keeps : goal.returns-in-Ok-Nothing-clause-keeps
returns-in-Ok-Nothing-clause-keeps c =
    let old = c.args.self.now in
    let left = c.forget_proposal.new.self in
    let engine = ap (λ (x : SupervisionState). x.engine) c.forget_proposal.ensures in
    record {
      state =
          keeps_state c.args.line.now c.args.centre old (Some c.args.t_train) left
          (ap (λ (x : SupervisionState). x.number) c.forget_proposal.ensures) engine
          (still_held c.args.line.now c.args.centre old (record old { supervision = left }) engine
          (ap (λ (x : SupervisionState). x.hand) c.forget_proposal.ensures) c.requires.at.held);
      desk = search rules;
    }

pub returns-in_err-up-clause-exact : goal.returns-in_err-up-clause-exact
returns-in_err-up-clause-exact c = λ k h.
    let p = err_from_is_err_and c.from_residual.result c.from_residual.ensures.1 in
    rw (p.1, p.2)
    (no_session c.args.line.now c.args.centre k c.args.t_train c.args.self.now c.args.book.now c.args.registrar.now h
    (ShorteningGranted c.args.request (position_of c.args.position.now)) _ refl
    (λ j down. rw down refl) _ c.in_err-up.ensures)

pub returns-in_err-mission-clause-exact : goal.returns-in_err-mission-clause-exact
returns-in_err-mission-clause-exact c = λ k h.
    let p = err_from_is_err_and c.from_residual-in_err-mission.result c.from_residual-in_err-mission.ensures.1 in
    rw (p.1, p.2)
    (no_mission c.args.line.now c.args.centre k c.args.t_train c.args.self.now c.args.book.now c.args.registrar.now h
    (ShorteningGranted c.args.request (position_of c.args.position.now)) _ refl (λ j up. rw up refl)
    (λ j. refl) c.in_ok-up.ensures _ c.in_err-mission.ensures)

use Rattle.std.proofs.Common.{[], ◌&&◌, ◌+◌, ◌∙◌, ◌≡◌, ap, false, is_none, is_some, refl, Some, subst, sym}
use Rattle.rbc_mission.specs.declared.held.HeldRight.TheVariants.{Held}
use Rattle.rbc_mission.specs.Supervisions.{claims_on}
use Rattle.rbc_place.specs.Places.{place_of}
use Rattle.rbc_right.specs.declared.right.Right.{Right}
use Rattle.rbc_right.specs.Rights.{right_of}
use Rattle.rbc_spec.proofs.Lists.{none_is}
use Rattle.rbc_spec.specs.Message.{TrainAccepted}
use Rattle.rbc_train.proofs.Desk.{answer_to, heard_said}
use Rattle.rbc_train.proofs.Requests.{some_mapped}
use Rattle.rbc_train.proofs.RightFrames.{admits, given_in_vain, none_told, released_as}
use Rattle.rbc_train.proofs.train.TrainState.right_given.Goals as goal
use Rattle.rbc_train.proofs.train.TrainState.right_given.Goals.{else-is_some-via-else-is_some}
use Rattle.rbc_train.proofs.train.TrainState.right_given.Goals.{else-is_some-via-then-is_some+else-is_none}
use Rattle.rbc_train.specs.declared.heard.Heard.{Heard}
use Rattle.rbc_train.specs.declared.mail.Notice.TheVariants as notice
use Rattle.rbc_train.specs.Desk.{unsaid, with_parts}
use Rattle.rbc_train.specs.Homes.{GoesHome}
use Rattle.rbc_train.specs.Letters.{mail_home, no_sections}

pub returns-then-is_none-clause-exact : goal.returns-then-is_none-clause-exact
returns-then-is_none-clause-exact c = λ book k has.
    let p = c.args.self.now in
    let new = record p { said = p.said + 1; supervision = c.admit.new.self; waiting = c.admit.new.waiting } in
    admits c.args.line.now c.args.centre k p book c.args.registrar.now has c.admit.new.self
    (claims_on p.supervision.engine p.waiting.sections) c.admit.new.waiting
    (sym c.has_asked.ensures ∙ c.if-not-has_asked.false)
    (none_is p.supervision.mission
    (none_told _ c.mission.result p.supervision.mission c.is_none.result c.mission.ensures.value c.is_none.ensures
    ∙ c.if-is_none.true))
    (ap is_some (sym c.place.ensures) ∙ some_mapped place_of c.place.result ∙ sym c.is_some.ensures ∙ c.if-is_some.true)
    c.admit.ensures.supervision c.admit.ensures.waits
    ∙ sym (heard_said c.args.line.now c.args.centre p.supervision.engine k c.answered.new.self new book
    c.args.registrar.now (record c.args.out.now { saying = Some c.answered.result })
    (answer_to p.supervision.engine (p.said + 1) TrainAccepted) c.answered.ensures.counted
    (c.answered.ensures.said ∙ (λ i. answer_to (c.admit.ensures.supervision i).engine (p.said + 1) TrainAccepted))
    (ap (λ (x : Heard). record x { saying = Some c.answered.result }) c.requires.ready.out))

pub returns-clause-exact : goal.returns-clause-exact
returns-clause-exact c = λ book k has.
    let p = c.args.self.now in
    let some = ap is_some (sym c.place.ensures) ∙ some_mapped place_of c.place.result ∙ sym c.is_some.ensures in
    let busy : (is_some p.waiting.wait && is_none p.supervision.mission) ≡ false = elim c.else-is_some.branch [
      | else-is_some-via-then-is_some+else-is_none w ↦
          let other : is_none p.supervision.mission ≡ false =
          none_told _ w.mission.result p.supervision.mission w.is_none.result w.mission.ensures.value w.is_none.ensures
          ∙ w.if-is_none.false in
          rw (some ∙ w.if-is_some.true) other
      | else-is_some-via-else-is_some w ↦ rw (some ∙ w.if-is_some.false) refl
    ] in
    given_in_vain c.args.line.now c.args.centre k p book c.args.registrar.now has c.released.new.out.mail.letter
    c.released.new.registrar c.note_answer.new.self
    (sym c.has_asked.ensures ∙ c.if-not-has_asked.false) busy c.requires.number
    (subst (λ (r : Right). GoesHome c.args.line.now c.args.centre p.supervision.engine
    (Held r) c.released.new.out.mail.letter c.args.registrar.now c.released.new.registrar)
    (c.arrive-right.ensures ∙ ap right_of c.number.ensures) c.released.ensures.right)
    c.note_answer.ensures
    ∙ sym (released_as c.args.line.now c.args.centre p.supervision.engine
    (with_parts (record p { waiting = c.note_answer.new.self }) book c.released.new.registrar k) c.released.new.out []
    (mail_home 0 no_sections notice.Nothing c.released.new.out.mail.letter)
    (c.released.ensures.heard
    ∙ ap (unsaid (mail_home 0 no_sections notice.Nothing c.released.new.out.mail.letter)) c.nothing.ensures))

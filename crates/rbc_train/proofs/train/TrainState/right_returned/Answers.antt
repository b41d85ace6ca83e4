use Rattle.std.proofs.Common.{◌&&◌, ◌∙◌, ◌≡◌, ap, false, is_none, refl, sym}
use Rattle.rbc_right.specs.Rights.{right_of}
use Rattle.rbc_spec.proofs.Lists.{none_is}
use Rattle.rbc_spec.specs.Centre.{is_registrar_of}
use Rattle.rbc_spec.specs.Line.{registrar}
use Rattle.rbc_train.proofs.RightFrames.{is_back, none_told, not_returned, returned}
use Rattle.rbc_train.proofs.Runs.{is_registered, not_registered}
use Rattle.rbc_train.proofs.train.TrainState.right_returned.Goals as goal
use Rattle.rbc_train.proofs.train.TrainState.right_returned.Goals.{else-is_registrar-via-else-is_registrar}
use Rattle.rbc_train.proofs.train.TrainState.right_returned.Goals.{else-is_registrar-via-then-is_registrar+else-is_none}

pub returns-then-is_none-clause-exact : goal.returns-then-is_none-clause-exact
returns-then-is_none-clause-exact c = λ book k has.
    let line = c.args.line.now in
    let p = c.args.self.now in
    let t = p.supervision.engine in
    returned line c.args.centre k p book c.args.registrar.now has c.back.new.self
    (is_registered line c.args.centre t c.registrar.result
    (c.registrar.ensures ∙ ap (registrar line) c.nid_engine.ensures)
    (sym c.eq-is_registrar.ensures ∙ c.if-is_registrar.true))
    (none_is p.supervision.mission
    (none_told _ c.mission.result p.supervision.mission c.is_none.result c.mission.ensures.value c.is_none.ensures
    ∙ c.if-is_none.true))
    (is_back c.args.registrar.now c.back.new.self p.supervision.number c.arrive.result
    (c.arrive.ensures ∙ ap right_of c.number.ensures) c.requires.number c.back.ensures.here)

pub returns-else-is_registrar-clause-exact : goal.returns-else-is_registrar-clause-exact
returns-else-is_registrar-clause-exact c = λ book k has.
    let line = c.args.line.now in
    let p = c.args.self.now in
    let t = p.supervision.engine in
    let there = c.registrar.ensures ∙ ap (registrar line) c.nid_engine.ensures in
    let no : (is_registrar_of line c.args.centre t && is_none p.supervision.mission) ≡ false =
    elim c.else-is_registrar.branch [
      | else-is_registrar-via-then-is_registrar+else-is_none w ↦
          let other : is_none p.supervision.mission ≡ false =
          none_told _ w.mission.result p.supervision.mission w.is_none.result w.mission.ensures.value w.is_none.ensures
          ∙ w.if-is_none.false in
          rw (is_registered line c.args.centre t c.registrar.result there
          (sym c.eq-is_registrar.ensures ∙ w.if-is_registrar.true)) other
      | else-is_registrar-via-else-is_registrar w ↦
          rw (not_registered line c.args.centre t c.registrar.result there
          (sym c.eq-is_registrar.ensures ∙ w.if-is_registrar.false)) refl
    ] in
    not_returned line c.args.centre k p book c.args.registrar.now has no

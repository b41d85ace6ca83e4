use Rattle.std.proofs.Common.{◌∙◌, ap, option_map, Some, sym, ℕ}
use Rattle.rbc_border.specs.Lending.{sending}
use Rattle.rbc_line.specs.SectionRuns.{run_of}
use Rattle.rbc_linkmsg.specs.declared.body.Body.TheVariants as code
use Rattle.rbc_mission.specs.Supervisions.{SupervisionState}
use Rattle.rbc_spec.specs.Frame.{RouteReturn}
use Rattle.rbc_train.proofs.Desk.{has_supervision, supervision_left}
use Rattle.rbc_train.proofs.RouteFrames.{told_as}
use Rattle.rbc_train.proofs.train.TrainState.route_told.Goals as goal
use Rattle.rbc_train.specs.declared.heard.Heard.{Heard}
use Rattle.rbc_train.specs.Desk.{reply_left, with_parts}

pub returns-in-Some-clause-exact : goal.returns-in-Some-clause-exact
returns-in-Some-clause-exact c = λ n book rights k has.
    let line = c.args.line.now in
    let p = c.args.self.now in
    let t = p.supervision.engine in
    let left = c.info.new.self in
    let j = with_parts (record p { supervision = left }) book rights k in
    c.info.ensures.exact n k (has_supervision line n k p book rights has)
    ∙ (λ i. sending c.args.from (option_map (λ run. RouteReturn t (run_of run)) (c.in-Some.is i))
    (supervision_left line n k p book rights has left (ap (λ (x : SupervisionState). x.engine) c.info.ensures.state)
    (ap (λ (x : SupervisionState). x.number) c.info.ensures.state) i))
    ∙ told_as line n t c.args.from c.nid_engine-engine.result (λ (e : ℕ). code.RouteReturn e c.in-Some.run') j
    (record c.args.out.now {
      mail =
          record c.args.out.now.mail {
            letter =
                Some (record { to = c.args.from; body = code.RouteReturn c.nid_engine-engine.result c.in-Some.run' });
          };
    }) c.nid_engine-engine.ensures
    (ap
    (λ (x : Heard).
    record x {
      mail =
          record x.mail {
            letter =
                Some (record { to = c.args.from; body = code.RouteReturn c.nid_engine-engine.result c.in-Some.run' });
          };
    }) c.requires.out)

pub returns-in-None-clause-exact : goal.returns-in-None-clause-exact
returns-in-None-clause-exact c = λ n book rights k has.
    let line = c.args.line.now in
    let p = c.args.self.now in
    let t = p.supervision.engine in
    let left = c.info.new.self in
    let j = with_parts (record p { supervision = left }) book rights k in
    c.info.ensures.exact n k (has_supervision line n k p book rights has)
    ∙ (λ i. sending c.args.from (option_map (λ run. RouteReturn t (run_of run)) (c.in-None.is i))
    (supervision_left line n k p book rights has left (ap (λ (x : SupervisionState). x.engine) c.info.ensures.state)
    (ap (λ (x : SupervisionState). x.number) c.info.ensures.state) i))
    ∙ ap (reply_left line n t j) (sym c.requires.out)

use Rattle.std.proofs.Common.{◌∙◌, ◌≡◌, ap, option_map, subst, sym}
use Rattle.rbc_border.specs.Border.{GoesOn}
use Rattle.rbc_border.specs.Lending.{sending}
use Rattle.rbc_handover.specs.Handings.{handing_of}
use Rattle.rbc_line.specs.declared.section_run.SectionRun.{SectionRun}
use Rattle.rbc_line.specs.SectionRuns.{run_of}
use Rattle.rbc_mission.proofs.Borders.{border_after, has_border, KeepsBorder, kept, no_way, told, train_is}
use Rattle.rbc_mission.proofs.Missions.{none_stands}
use Rattle.rbc_mission.proofs.supervision.Supervision.info.Goals as goal
use Rattle.rbc_mission.proofs.supervision.Supervision.info.Goals.{After-info}
use Rattle.rbc_mission.specs.Supervisions.{supervision_state, with_supervision}
use Rattle.rbc_spec.specs.Frame.{RouteReturn}
use Rattle.rbc_spec.specs.Links as links

keeps : (c : After-info) → KeepsBorder c.self.inside.mission c.self.inside.border c.info.new.self
keeps c =
    told c.args.line.now c.args.from
    (run_of c.args.sections) c.way-way.result c.self.inside.mission c.self.inside.border c.info.new.self c.requires
    (λ none. no_way c.way-way.result c.args.self.now.mission c.way-way.ensures
    (none_stands c.self.inside.number c.self.inside.nid_engine c.self.inside.mission c.self.inside.hand
    c.self.inside.border (handing_of c.self.inside.handover) c.args.self.now c.self.view_is none))
    (λ miss. (c.info.ensures.unasked miss).1) (λ hit wanted. (c.info.ensures.wanted hit wanted).1)
    (λ hit not_it. (c.info.ensures.unwanted hit not_it).1)

pub invariant_of-self : goal.invariant_of-self
invariant_of-self c =
    kept c.self.inside.number c.self.inside.nid_engine c.self.inside.mission c.self.inside.hand c.self.inside.right
    c.self.inside.border c.info.new.self (handing_of c.self.inside.handover) c.self.invariant (keeps c)

pub returns-clause-exact : goal.returns-clause-exact
returns-clause-exact c centre k has =
    let b = c.self.inside.border in
    let after =
    supervision_state c.self.inside.number c.self.inside.nid_engine c.self.inside.mission c.self.inside.hand
    c.info.new.self (handing_of c.self.inside.handover) in
    let train =
    train_is k c.self.inside.number c.self.inside.nid_engine c.self.inside.mission c.self.inside.hand
    c.self.inside.border (handing_of c.self.inside.handover) c.args.self.now c.self.view_is c.self.invariant.train
    has in
    let goes : GoesOn c.way-way.result (k.mission b.engine) =
    subst (GoesOn c.way-way.result) (sym (ap k.mission train ∙ has.has_mission)) c.way-way.ensures in
    subst (λ t. links.route_told c.args.line.now centre c.args.from t (run_of c.args.sections) k
    ≡ sending c.args.from (option_map (λ (r : SectionRun). RouteReturn t (run_of r)) c.info.result)
    (with_supervision after k)) train
    (c.info.ensures.exact centre k
    (has_border k c.self.inside.number c.self.inside.nid_engine c.self.inside.mission c.self.inside.hand
    c.self.inside.border (handing_of c.self.inside.handover) c.args.self.now c.self.view_is c.self.invariant.train has)
    goes
    ∙ ap (sending c.args.from (option_map (λ (r : SectionRun). RouteReturn b.engine (run_of r)) c.info.result))
    (border_after k c.self.inside.number c.self.inside.nid_engine c.self.inside.mission c.self.inside.hand
    c.self.inside.border (handing_of c.self.inside.handover) c.args.self.now c.self.view_is c.self.invariant.train has
    c.info.new.self (keeps c).train))

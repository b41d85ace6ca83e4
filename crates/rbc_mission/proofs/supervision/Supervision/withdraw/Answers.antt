use Rattle.std.proofs.Common.{◌∙◌, ◌≡◌, ap, subst}
use Rattle.std.specs.Option.{option_map_or}
use Rattle.rbc_handover.specs.Handings.{handing_of}
use Rattle.rbc_line.specs.declared.section_run.SectionRun.{SectionRun}
use Rattle.rbc_line.specs.SectionRuns.{run_of}
use Rattle.rbc_mission.proofs.Borders.{border_after, has_border, train_is, withdraws}
use Rattle.rbc_mission.proofs.supervision.Supervision.withdraw.Goals as goal
use Rattle.rbc_mission.specs.Supervisions.{supervision_state, with_supervision}
use Rattle.rbc_spec.specs.Acts as acts
use Rattle.rbc_spec.specs.Links as links

pub returns-clause-exact : goal.returns-clause-exact
returns-clause-exact c line centre k m has mission =
    let b = c.self.inside.border in
    let after =
    supervision_state c.self.inside.number c.self.inside.nid_engine c.self.inside.mission c.self.inside.hand
    c.withdraw.new.self (handing_of c.self.inside.handover) in
    let keeps =
    withdraws c.self.inside.mission b c.withdraw.new.self c.args.s c.withdraw.ensures.state c.self.invariant.none in
    let train =
    train_is k c.self.inside.number c.self.inside.nid_engine c.self.inside.mission c.self.inside.hand
    c.self.inside.border (handing_of c.self.inside.handover) c.args.self.now c.self.view_is c.self.invariant.train
    has in
    subst (λ t. links.route_withdrawn line centre t c.args.s k
    ≡ option_map_or (λ (r : SectionRun). acts.returned line centre t m.place.track (run_of r)) c.withdraw.result
    (acts.propose_if_so line t c.args.s) (with_supervision after k)) train
    (c.withdraw.ensures.exact line centre k m
    (has_border k c.self.inside.number c.self.inside.nid_engine c.self.inside.mission c.self.inside.hand
    c.self.inside.border (handing_of c.self.inside.handover) c.args.self.now c.self.view_is c.self.invariant.train has)
    (ap k.mission train ∙ has.has_mission ∙ mission)
    ∙ ap (option_map_or (λ (r : SectionRun). acts.returned line centre b.engine m.place.track (run_of r))
    c.withdraw.result (acts.propose_if_so line b.engine c.args.s))
    (border_after k c.self.inside.number c.self.inside.nid_engine c.self.inside.mission c.self.inside.hand
    c.self.inside.border (handing_of c.self.inside.handover) c.args.self.now c.self.view_is c.self.invariant.train has
    c.withdraw.new.self keeps.train))

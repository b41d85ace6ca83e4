use Rattle.std.proofs.Common.{◌∙◌, ◌≡◌, ap, option_map, refl, Some, subst}
use Rattle.rbc_hand.specs.Hands.{IsAllOwn}
use Rattle.rbc_handover.specs.Handings.{handing_of}
use Rattle.rbc_mission.proofs.Missions.{changed, claims_held, no_facts, own_claims}
use Rattle.rbc_mission.proofs.supervision.Supervision.admit.Goals as goal
use Rattle.rbc_mission.proofs.supervision.Supervision.admit.Goals.{After-self-1}
use Rattle.rbc_mission.specs.Supervisions.{claims_on, mission_at, mission_of}
use Rattle.rbc_spec.specs.SectionRuns.{no_run}

claims : (c : After-self-1) → c.admit.new.hand ≡ claims_on c.args.self.now.engine c.args.waiting.now.sections
claims c =
    own_claims c.args.self.now.engine c.args.waiting.now.sections c.admit.new.hand
    (subst (λ t. IsAllOwn t c.admit.new.hand) c.requires.engine c.in-Some.ensures.own) c.in-Some.ensures.sections

pub returns-in-Some-clause-supervision : goal.returns-in-Some-clause-supervision
returns-in-Some-clause-supervision c =
    let none : c.self.inside.border.pool ≡ no_run =
    c.self.invariant.none (no_facts c.self.inside.number c.self.inside.nid_engine c.self.inside.mission
    c.self.inside.hand c.self.inside.border
    (handing_of c.self.inside.handover) c.args.self.now c.self.view_is c.requires.none) in
    let unhanded =
    c.self.invariant.handed (no_facts c.self.inside.number c.self.inside.nid_engine c.self.inside.mission
    c.self.inside.hand c.self.inside.border
    (handing_of c.self.inside.handover) c.args.self.now c.self.view_is c.requires.none) in
    let begun = option_map (λ place. mission_at place c.args.waiting.now.sections) c.args.waiting.now.wait in
    changed c.self.inside.number c.self.inside.nid_engine c.self.inside.mission c.self.inside.hand c.self.inside.border
    (handing_of c.self.inside.handover) c.args.self.now c.self.view_is
    (Some c.at.result) c.admit.new.hand c.self.inside.border (handing_of c.self.inside.handover) begun
    ((λ i. Some (mission_of (c.in-Some.ensures.sections i) (none i) (unhanded i) (c.at.ensures i)))
    ∙ ap (option_map (λ place. mission_at place c.args.waiting.now.sections)) c.in-Some.ensures.place) refl
    ∙ (λ i. record c.args.self.now { mission = begun; hand = claims c i })

pub returns-in-Some-clause-held : goal.returns-in-Some-clause-held
returns-in-Some-clause-held c is_home =
    claims_held c.args.self.now.engine c.args.waiting.now.sections is_home c.admit.new.hand (claims c)

use Rattle.rbc_handover.specs.Handings.{handing_of}
use Rattle.rbc_mission.proofs.Missions.{facts_are, route_form}
use Rattle.rbc_mission.proofs.supervision.Supervision.mission.Goals as goal

pub returns-clause-value : goal.returns-clause-value
returns-clause-value c =
    facts_are c.self.inside.number c.self.inside.nid_engine c.self.inside.mission c.self.inside.hand
    c.self.inside.border (handing_of c.self.inside.handover) c.args.self.now c.self.view_is

pub returns-clause-route : goal.returns-clause-route
returns-clause-route c m mission =
    route_form c.self.inside.number c.self.inside.nid_engine c.self.inside.mission c.self.inside.hand
    c.self.inside.border (handing_of c.self.inside.handover) c.args.self.now c.self.view_is c.self.inside.right
    c.self.invariant m mission

use Rattle.std.proofs.Common.{◌∙◌}
use Rattle.rbc_handover.specs.Handings.{handing_of}
use Rattle.rbc_mission.proofs.Missions.{pool_is}
use Rattle.rbc_mission.proofs.supervision.Supervision.pool.Goals as goal

pub returns-clause-value : goal.returns-clause-value
returns-clause-value c =
    c.pool.ensures.value ∙ pool_is c.self.inside.number c.self.inside.nid_engine c.self.inside.mission
    c.self.inside.hand c.self.inside.border
    (handing_of c.self.inside.handover) c.args.self.now c.self.view_is c.self.invariant.none

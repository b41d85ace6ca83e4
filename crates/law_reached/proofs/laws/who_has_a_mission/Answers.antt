use Rattle.law_reached.proofs.Known.{flow}
use Rattle.law_reached.proofs.laws.who_has_a_mission.Goals as goal
use Rattle.law_reached.proofs.Missions.{missions_seen}

pub returns : goal.returns
returns o line w known = missions_seen line w (flow line w known) known.shows

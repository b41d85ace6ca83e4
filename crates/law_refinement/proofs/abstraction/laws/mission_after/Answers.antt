use Rattle.law_refinement.proofs.abstraction.laws.mission_after.Goals as goal
use Rattle.law_refinement.proofs.AbstractionLemmas.Missions.{mission_shown}

pub returns : goal.returns
returns ctx line w c came y frames new t old mission sound at act after before =
    mission_shown line w c came y frames new t sound act at old mission before after

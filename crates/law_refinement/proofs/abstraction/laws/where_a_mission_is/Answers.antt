use Rattle.law_refinement.proofs.abstraction.laws.where_a_mission_is.Goals as goal
use Rattle.law_refinement.proofs.AbstractionLemmas.Missions.{came_here, none_here, supervised}

pub returns-clause-supervised : goal.returns-clause-supervised
returns-clause-supervised ctx line w c came y frames new t m sound act =
    supervised line w c came y frames new t sound act m

pub returns-clause-came : goal.returns-clause-came
returns-clause-came ctx = came_here

pub returns-clause-none : goal.returns-clause-none
returns-clause-none ctx = none_here

use Rattle.test_scenes.proofs.not_allowed.two_yields_on_the_way.Goals as goal
use Rattle.test_scenes.proofs.NotAllowed.{no_state, one_mission, two_missions}

pub returns-clause-one : goal.returns-clause-one
returns-clause-one c = one_mission

pub returns-clause-two : goal.returns-clause-two
returns-clause-two c = two_missions

pub returns-clause-no_state : goal.returns-clause-no_state
returns-clause-no_state c = no_state

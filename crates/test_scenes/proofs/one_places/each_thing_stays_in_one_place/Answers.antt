use Rattle.test_scenes.proofs.one_places.each_thing_stays_in_one_place.Goals as goal
use Rattle.test_scenes.proofs.OnePlaces.{conditions_keep, handovers_keep, late_frames_keep, one_yield_is, requests_keep}
use Rattle.test_scenes.proofs.OnePlaces.{shortenings_keep, starts_keep, three_centres_keep, two_yields_is}

pub returns-clause-starts : goal.returns-clause-starts
returns-clause-starts c = starts_keep

pub returns-clause-requests : goal.returns-clause-requests
returns-clause-requests c = requests_keep

pub returns-clause-shortenings : goal.returns-clause-shortenings
returns-clause-shortenings c = shortenings_keep

pub returns-clause-handovers : goal.returns-clause-handovers
returns-clause-handovers c = handovers_keep

pub returns-clause-late_frames : goal.returns-clause-late_frames
returns-clause-late_frames c = late_frames_keep

pub returns-clause-conditions : goal.returns-clause-conditions
returns-clause-conditions c = conditions_keep

pub returns-clause-three_centres : goal.returns-clause-three_centres
returns-clause-three_centres c = three_centres_keep

pub returns-clause-one_yield : goal.returns-clause-one_yield
returns-clause-one_yield c = one_yield_is

pub returns-clause-two_yields : goal.returns-clause-two_yields
returns-clause-two_yields c = two_yields_is

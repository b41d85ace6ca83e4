use Rattle.test_scenes.proofs.stray_frames.Goals as goal
use Rattle.test_scenes.proofs.StrayFrames.{fronts_before_the_track_come_to_nothing, strays_from_c_come_to_nothing}
use Rattle.test_scenes.proofs.StrayFrames.{strays_of_another_centre_come_to_nothing, strays_to_a_come_to_nothing}
use Rattle.test_scenes.proofs.StrayFrames.{strays_to_the_announcing_come_to_nothing}
use Rattle.test_scenes.proofs.StrayFrames.{strays_to_the_expecting_come_to_nothing}
use Rattle.test_scenes.proofs.StrayFrames.{strays_to_the_taking_come_to_nothing, yields_are_taken}

pub returns-clause-to_a : goal.returns-clause-to_a
returns-clause-to_a c = strays_to_a_come_to_nothing

pub returns-clause-from_c : goal.returns-clause-from_c
returns-clause-from_c c = strays_from_c_come_to_nothing

pub returns-clause-to_the_announcing : goal.returns-clause-to_the_announcing
returns-clause-to_the_announcing c = strays_to_the_announcing_come_to_nothing

pub returns-clause-of_another_centre : goal.returns-clause-of_another_centre
returns-clause-of_another_centre c = strays_of_another_centre_come_to_nothing

pub returns-clause-to_the_expecting : goal.returns-clause-to_the_expecting
returns-clause-to_the_expecting c = strays_to_the_expecting_come_to_nothing

pub returns-clause-to_the_taking : goal.returns-clause-to_the_taking
returns-clause-to_the_taking c = strays_to_the_taking_come_to_nothing

pub returns-clause-before_the_track : goal.returns-clause-before_the_track
returns-clause-before_the_track c = fronts_before_the_track_come_to_nothing

pub returns-clause-yields_taken : goal.returns-clause-yields_taken
returns-clause-yields_taken c = yields_are_taken

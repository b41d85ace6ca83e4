use Rattle.test_scenes.proofs.over_three_centres.Goals as goal
use Rattle.test_scenes.proofs.ThreeCentres.{any_two_are_linked_comes_out, border_of_the_first_comes_out}
use Rattle.test_scenes.proofs.ThreeCentres.{each_home_gets_its_section_back_comes_out}
use Rattle.test_scenes.proofs.ThreeCentres.{ended_mission_is_yielded_comes_out, second_takes_over_comes_out}
use Rattle.test_scenes.proofs.ThreeCentres.{stands_still_before_the_third_comes_out, wish_at_a_third_centre_comes_out}
use Rattle.test_scenes.proofs.ThreeCentres.{yield_with_a_third_home_comes_out}

pub returns-clause-border_of_the_first : goal.returns-clause-border_of_the_first
returns-clause-border_of_the_first c = border_of_the_first_comes_out

pub returns-clause-second_takes_over : goal.returns-clause-second_takes_over
returns-clause-second_takes_over c = second_takes_over_comes_out

pub returns-clause-yield_with_a_third_home : goal.returns-clause-yield_with_a_third_home
returns-clause-yield_with_a_third_home c = yield_with_a_third_home_comes_out

pub returns-clause-wish_at_a_third_centre : goal.returns-clause-wish_at_a_third_centre
returns-clause-wish_at_a_third_centre c = wish_at_a_third_centre_comes_out

pub returns-clause-any_two_are_linked : goal.returns-clause-any_two_are_linked
returns-clause-any_two_are_linked c = any_two_are_linked_comes_out

pub returns-clause-each_home_gets_its_section_back : goal.returns-clause-each_home_gets_its_section_back
returns-clause-each_home_gets_its_section_back c = each_home_gets_its_section_back_comes_out

pub returns-clause-ended_mission_is_yielded : goal.returns-clause-ended_mission_is_yielded
returns-clause-ended_mission_is_yielded c = ended_mission_is_yielded_comes_out

pub returns-clause-stands_still_before_the_third : goal.returns-clause-stands_still_before_the_third
returns-clause-stands_still_before_the_third c = stands_still_before_the_third_comes_out

use Rattle.test_scenes.proofs.placed.Goals as goal
use Rattle.test_scenes.proofs.Places.{hand_out_of_reach_comes_out, longest_train_comes_out, other_scale_comes_out}
use Rattle.test_scenes.proofs.Places.{own_stamp_after_a_yield_comes_out, reports_without_place_comes_out}
use Rattle.test_scenes.proofs.Places.{requests_without_place_comes_out, starts_that_are_not_fit_comes_out}

pub returns-clause-reports_without_place : goal.returns-clause-reports_without_place
returns-clause-reports_without_place c = reports_without_place_comes_out

pub returns-clause-requests_without_place : goal.returns-clause-requests_without_place
returns-clause-requests_without_place c = requests_without_place_comes_out

pub returns-clause-hand_out_of_reach : goal.returns-clause-hand_out_of_reach
returns-clause-hand_out_of_reach c = hand_out_of_reach_comes_out

pub returns-clause-starts_that_are_not_fit : goal.returns-clause-starts_that_are_not_fit
returns-clause-starts_that_are_not_fit c = starts_that_are_not_fit_comes_out

pub returns-clause-longest_train : goal.returns-clause-longest_train
returns-clause-longest_train c = longest_train_comes_out

pub returns-clause-other_scale : goal.returns-clause-other_scale
returns-clause-other_scale c = other_scale_comes_out

pub returns-clause-own_stamp_after_a_yield : goal.returns-clause-own_stamp_after_a_yield
returns-clause-own_stamp_after_a_yield c = own_stamp_after_a_yield_comes_out

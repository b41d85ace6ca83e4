use Rattle.test_scenes.proofs.places_met.Goals as goal
use Rattle.test_scenes.proofs.PlacesMet.{hand_out_of_reach_is_met, longest_train_is_met, other_scale_is_met}
use Rattle.test_scenes.proofs.PlacesMet.{own_stamp_after_a_yield_is_met, reports_without_place_is_met}
use Rattle.test_scenes.proofs.PlacesMet.{requests_without_place_is_met, starts_that_are_not_fit_is_met}

pub returns-clause-reports_without_place : goal.returns-clause-reports_without_place
returns-clause-reports_without_place c = reports_without_place_is_met

pub returns-clause-requests_without_place : goal.returns-clause-requests_without_place
returns-clause-requests_without_place c = requests_without_place_is_met

pub returns-clause-hand_out_of_reach : goal.returns-clause-hand_out_of_reach
returns-clause-hand_out_of_reach c = hand_out_of_reach_is_met

pub returns-clause-starts_that_are_not_fit : goal.returns-clause-starts_that_are_not_fit
returns-clause-starts_that_are_not_fit c = starts_that_are_not_fit_is_met

pub returns-clause-longest_train : goal.returns-clause-longest_train
returns-clause-longest_train c = longest_train_is_met

pub returns-clause-other_scale : goal.returns-clause-other_scale
returns-clause-other_scale c = other_scale_is_met

pub returns-clause-own_stamp_after_a_yield : goal.returns-clause-own_stamp_after_a_yield
returns-clause-own_stamp_after_a_yield c = own_stamp_after_a_yield_is_met

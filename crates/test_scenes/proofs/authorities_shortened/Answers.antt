use Rattle.test_scenes.proofs.authorities_shortened.Goals as goal
use Rattle.test_scenes.proofs.Shortening.{another_answer_at_the_border_comes_out, answer_to_another_proposal_comes_out}
use Rattle.test_scenes.proofs.Shortening.{asking_again_tries_again_comes_out, granted_past_the_proposed_end_comes_out}
use Rattle.test_scenes.proofs.Shortening.{shortening_and_a_late_route_comes_out, shortening_in_one_centre_comes_out}
use Rattle.test_scenes.proofs.Shortening.{start_drops_the_proposal_comes_out, unset_in_a_hand_comes_out}

pub returns-clause-unset_in_a_hand : goal.returns-clause-unset_in_a_hand
returns-clause-unset_in_a_hand c = unset_in_a_hand_comes_out

pub returns-clause-start_drops_the_proposal : goal.returns-clause-start_drops_the_proposal
returns-clause-start_drops_the_proposal c = start_drops_the_proposal_comes_out

pub returns-clause-shortening_in_one_centre : goal.returns-clause-shortening_in_one_centre
returns-clause-shortening_in_one_centre c = shortening_in_one_centre_comes_out

pub returns-clause-shortening_and_a_late_route : goal.returns-clause-shortening_and_a_late_route
returns-clause-shortening_and_a_late_route c = shortening_and_a_late_route_comes_out

pub returns-clause-answer_to_another_proposal : goal.returns-clause-answer_to_another_proposal
returns-clause-answer_to_another_proposal c = answer_to_another_proposal_comes_out

pub returns-clause-granted_past_the_proposed_end : goal.returns-clause-granted_past_the_proposed_end
returns-clause-granted_past_the_proposed_end c = granted_past_the_proposed_end_comes_out

pub returns-clause-another_answer_at_the_border : goal.returns-clause-another_answer_at_the_border
returns-clause-another_answer_at_the_border c = another_answer_at_the_border_comes_out

pub returns-clause-asking_again_tries_again : goal.returns-clause-asking_again_tries_again
returns-clause-asking_again_tries_again c = asking_again_tries_again_comes_out

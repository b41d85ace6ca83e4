use Rattle.test_scenes.proofs.ForcedMet.{hand_of_32_sections_is_met_by_forced_run}
use Rattle.test_scenes.proofs.ForcedMet.{section_out_of_reach_is_met_by_forced_run}
use Rattle.test_scenes.proofs.ForcedMet.{shortening_in_one_centre_is_met_by_forced_run}
use Rattle.test_scenes.proofs.ForcedMet.{start_drops_the_proposal_is_met_by_forced_run}
use Rattle.test_scenes.proofs.one_centre_met.Goals as goal

pub returns-clause-start_drops_the_proposal : goal.returns-clause-start_drops_the_proposal
returns-clause-start_drops_the_proposal c = start_drops_the_proposal_is_met_by_forced_run

pub returns-clause-shortening_in_one_centre : goal.returns-clause-shortening_in_one_centre
returns-clause-shortening_in_one_centre c = shortening_in_one_centre_is_met_by_forced_run

pub returns-clause-hand_of_32_sections : goal.returns-clause-hand_of_32_sections
returns-clause-hand_of_32_sections c = hand_of_32_sections_is_met_by_forced_run

pub returns-clause-section_out_of_reach : goal.returns-clause-section_out_of_reach
returns-clause-section_out_of_reach c = section_out_of_reach_is_met_by_forced_run

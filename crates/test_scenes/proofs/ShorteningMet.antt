-- The one line centre meets the answers of the centres in the scenes of Shortening, computed.
use Rattle.std.proofs.Common.{refl}
use Rattle.rbc_spec.specs.Acts.{◌>>◌}
use Rattle.rbc_spec.specs.Centre.{beginning}
use Rattle.rbc_spec.specs.Line.{end, start as line_start}
use Rattle.rbc_spec.specs.LineCentre.{line_beginning}
use Rattle.rbc_spec.specs.Place.{extent}
use Rattle.rbc_spec.specs.ReadOff.{read_off}
use Rattle.rbc_spec.specs.SectionRuns.{longest, within}
use Rattle.rbc_spec.specs.Step.{step}
use Rattle.rbc_spec.specs.World.{new_world, world_step}
use Rattle.test_scenes.proofs.Pieces.{met_by_run}
use Rattle.test_scenes.specs.Moves.{play}
use Rattle.test_scenes.specs.Pieces.{centres_show, IsMetByRun, line_shows}
use Rattle.test_scenes.specs.Scene.{line, line_of_one}
use Rattle.test_scenes.specs.SceneMoves.{another_answer_at_the_border_moves, answer_to_another_proposal_moves}
use Rattle.test_scenes.specs.SceneMoves.{asking_again_tries_again_moves, granted_past_the_proposed_end_moves}
use Rattle.test_scenes.specs.SceneMoves.{late_route_moves, shortening_in_one_centre_moves}
use Rattle.test_scenes.specs.SceneMoves.{start_drops_the_proposal_moves, unset_in_a_hand_moves}
use Rattle.test_scenes.specs.Shortening.{another_answer_at_the_border, answer_to_another_proposal}
use Rattle.test_scenes.specs.Shortening.{asking_again_tries_again, granted_past_the_proposed_end}
use Rattle.test_scenes.specs.Shortening.{shortening_and_a_late_route, shortening_in_one_centre}
use Rattle.test_scenes.specs.Shortening.{start_drops_the_proposal, unset_in_a_hand}
use Rattle.test_scenes.specs.Turns.{quiet_turns}

pub unset_in_a_hand_is_met : IsMetByRun line unset_in_a_hand unset_in_a_hand_moves
unfolding within longest line_start end extent beginning ◌>>◌ step new_world world_step line_beginning read_off
    quiet_turns play centres_show line_shows
unset_in_a_hand_is_met = met_by_run line unset_in_a_hand unset_in_a_hand_moves refl refl refl

pub start_drops_the_proposal_is_met : IsMetByRun (line_of_one 8 1000) start_drops_the_proposal
    start_drops_the_proposal_moves
unfolding within longest line_start end extent beginning ◌>>◌ step new_world world_step line_beginning read_off
    quiet_turns play centres_show line_shows
start_drops_the_proposal_is_met =
    met_by_run (line_of_one 8 1000) start_drops_the_proposal start_drops_the_proposal_moves refl refl refl

pub shortening_in_one_centre_is_met : IsMetByRun (line_of_one 8 1000) shortening_in_one_centre
    shortening_in_one_centre_moves
unfolding within longest line_start end extent beginning ◌>>◌ step new_world world_step line_beginning read_off
    quiet_turns play centres_show line_shows
shortening_in_one_centre_is_met =
    met_by_run (line_of_one 8 1000) shortening_in_one_centre shortening_in_one_centre_moves refl refl refl

pub shortening_and_a_late_route_is_met : IsMetByRun line shortening_and_a_late_route late_route_moves
unfolding within longest line_start end extent beginning ◌>>◌ step new_world world_step line_beginning read_off
    quiet_turns play centres_show line_shows
shortening_and_a_late_route_is_met = met_by_run line shortening_and_a_late_route late_route_moves refl refl refl

pub answer_to_another_proposal_is_met : IsMetByRun line answer_to_another_proposal answer_to_another_proposal_moves
unfolding within longest line_start end extent beginning ◌>>◌ step new_world world_step line_beginning read_off
    quiet_turns play centres_show line_shows
answer_to_another_proposal_is_met =
    met_by_run line answer_to_another_proposal answer_to_another_proposal_moves refl refl refl

pub granted_past_the_proposed_end_is_met : IsMetByRun line granted_past_the_proposed_end
    granted_past_the_proposed_end_moves
unfolding within longest line_start end extent beginning ◌>>◌ step new_world world_step line_beginning read_off
    quiet_turns play centres_show line_shows
granted_past_the_proposed_end_is_met =
    met_by_run line granted_past_the_proposed_end granted_past_the_proposed_end_moves refl refl refl

pub another_answer_at_the_border_is_met : IsMetByRun line another_answer_at_the_border
    another_answer_at_the_border_moves
unfolding within longest line_start end extent beginning ◌>>◌ step new_world world_step line_beginning read_off
    quiet_turns play centres_show line_shows
another_answer_at_the_border_is_met =
    met_by_run line another_answer_at_the_border another_answer_at_the_border_moves refl refl refl

pub asking_again_tries_again_is_met : IsMetByRun line asking_again_tries_again asking_again_tries_again_moves
unfolding within longest line_start end extent beginning ◌>>◌ step new_world world_step line_beginning read_off
    quiet_turns play centres_show line_shows
asking_again_tries_again_is_met = met_by_run line asking_again_tries_again asking_again_tries_again_moves refl refl refl

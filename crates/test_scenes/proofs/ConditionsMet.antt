-- The one line centre meets the answers of the centres in the scenes of Conditions, computed.
use Rattle.std.proofs.Common.{refl}
use Rattle.rbc_spec.specs.Acts.{◌>>◌}
use Rattle.rbc_spec.specs.Centre.{beginning}
use Rattle.rbc_spec.specs.Line.{end, start as line_start}
use Rattle.rbc_spec.specs.LineCentre.{line_beginning}
use Rattle.rbc_spec.specs.Place.{extent}
use Rattle.rbc_spec.specs.ReadOff.{read_off}
use Rattle.rbc_spec.specs.SectionRuns.{longest, within}
use Rattle.rbc_spec.specs.Step.{step}
use Rattle.rbc_spec.specs.World.{new_world, world_step}
use Rattle.test_scenes.proofs.Pieces.{met_by_run}
use Rattle.test_scenes.specs.ConditionMoves.{cut_beyond_the_border_moves, cut_with_a_pool_moves}
use Rattle.test_scenes.specs.ConditionMoves.{front_before_the_hand_moves, front_in_the_section_moves}
use Rattle.test_scenes.specs.ConditionMoves.{full_hand_at_the_border_moves, pool_out_of_reach_moves}
use Rattle.test_scenes.specs.ConditionMoves.{proposal_ends_with_the_mission_moves, proposal_ends_with_the_session_moves}
use Rattle.test_scenes.specs.ConditionMoves.{request_again_over_the_border_moves, request_while_asked_moves}
use Rattle.test_scenes.specs.ConditionMoves.{section_out_of_reach_moves, unset_again_moves}
use Rattle.test_scenes.specs.ConditionMoves.{unset_without_a_session_moves, yield_with_a_pool_moves}
use Rattle.test_scenes.specs.Conditions.{cut_beyond_the_border, cut_with_a_pool, front_before_the_hand}
use Rattle.test_scenes.specs.Conditions.{front_in_the_section, full_hand_at_the_border, pool_out_of_reach}
use Rattle.test_scenes.specs.Conditions.{proposal_ends_with_the_mission, proposal_ends_with_the_session}
use Rattle.test_scenes.specs.Conditions.{request_again_over_the_border, request_while_asked, section_out_of_reach}
use Rattle.test_scenes.specs.Conditions.{start_outside_the_hand, unset_after_the_end, unset_again}
use Rattle.test_scenes.specs.Conditions.{unset_without_a_session, yield_with_a_pool}
use Rattle.test_scenes.specs.Moves.{play}
use Rattle.test_scenes.specs.Pieces.{centres_show, IsMetByRun, line_shows}
use Rattle.test_scenes.specs.Scene.{line, line_of_a_and_b, line_of_one}
use Rattle.test_scenes.specs.SceneMoves.{plain}
use Rattle.test_scenes.specs.Turns.{quiet_turns}

pub unset_without_a_session_is_met : IsMetByRun line unset_without_a_session unset_without_a_session_moves
unfolding within longest line_start end extent beginning ◌>>◌ step new_world world_step line_beginning read_off
    quiet_turns play centres_show line_shows
unset_without_a_session_is_met = met_by_run line unset_without_a_session unset_without_a_session_moves refl refl refl

pub unset_after_the_end_is_met : IsMetByRun line unset_after_the_end (plain unset_after_the_end)
unfolding within longest line_start end extent beginning ◌>>◌ step new_world world_step line_beginning read_off
    quiet_turns play centres_show line_shows
unset_after_the_end_is_met = met_by_run line unset_after_the_end (plain unset_after_the_end) refl refl refl

pub unset_again_is_met : IsMetByRun line unset_again unset_again_moves
unfolding within longest line_start end extent beginning ◌>>◌ step new_world world_step line_beginning read_off
    quiet_turns play centres_show line_shows
unset_again_is_met = met_by_run line unset_again unset_again_moves refl refl refl

pub front_before_the_hand_is_met : IsMetByRun line front_before_the_hand front_before_the_hand_moves
unfolding within longest line_start end extent beginning ◌>>◌ step new_world world_step line_beginning read_off
    quiet_turns play centres_show line_shows
front_before_the_hand_is_met = met_by_run line front_before_the_hand front_before_the_hand_moves refl refl refl

pub front_in_the_section_is_met : IsMetByRun line front_in_the_section front_in_the_section_moves
unfolding within longest line_start end extent beginning ◌>>◌ step new_world world_step line_beginning read_off
    quiet_turns play centres_show line_shows
front_in_the_section_is_met = met_by_run line front_in_the_section front_in_the_section_moves refl refl refl

pub section_out_of_reach_is_met : IsMetByRun (line_of_one 20 2000) section_out_of_reach section_out_of_reach_moves
unfolding within longest line_start end extent beginning ◌>>◌ step new_world world_step line_beginning read_off
    quiet_turns play centres_show line_shows
section_out_of_reach_is_met =
    met_by_run (line_of_one 20 2000) section_out_of_reach section_out_of_reach_moves refl refl refl

pub yield_with_a_pool_is_met : IsMetByRun line yield_with_a_pool yield_with_a_pool_moves
unfolding within longest line_start end extent beginning ◌>>◌ step new_world world_step line_beginning read_off
    quiet_turns play centres_show line_shows
yield_with_a_pool_is_met = met_by_run line yield_with_a_pool yield_with_a_pool_moves refl refl refl

pub cut_with_a_pool_is_met : IsMetByRun line cut_with_a_pool cut_with_a_pool_moves
unfolding within longest line_start end extent beginning ◌>>◌ step new_world world_step line_beginning read_off
    quiet_turns play centres_show line_shows
cut_with_a_pool_is_met = met_by_run line cut_with_a_pool cut_with_a_pool_moves refl refl refl

pub cut_beyond_the_border_is_met : IsMetByRun line cut_beyond_the_border cut_beyond_the_border_moves
unfolding within longest line_start end extent beginning ◌>>◌ step new_world world_step line_beginning read_off
    quiet_turns play centres_show line_shows
cut_beyond_the_border_is_met = met_by_run line cut_beyond_the_border cut_beyond_the_border_moves refl refl refl

pub proposal_ends_with_the_session_is_met : IsMetByRun line proposal_ends_with_the_session
    proposal_ends_with_the_session_moves
unfolding within longest line_start end extent beginning ◌>>◌ step new_world world_step line_beginning read_off
    quiet_turns play centres_show line_shows
proposal_ends_with_the_session_is_met =
    met_by_run line proposal_ends_with_the_session proposal_ends_with_the_session_moves refl refl refl

pub start_outside_the_hand_is_met : IsMetByRun line start_outside_the_hand (plain start_outside_the_hand)
unfolding within longest line_start end extent beginning ◌>>◌ step new_world world_step line_beginning read_off
    quiet_turns play centres_show line_shows
start_outside_the_hand_is_met = met_by_run line start_outside_the_hand (plain start_outside_the_hand) refl refl refl

pub request_again_over_the_border_is_met : IsMetByRun line request_again_over_the_border
    request_again_over_the_border_moves
unfolding within longest line_start end extent beginning ◌>>◌ step new_world world_step line_beginning read_off
    quiet_turns play centres_show line_shows
request_again_over_the_border_is_met =
    met_by_run line request_again_over_the_border request_again_over_the_border_moves refl refl refl

pub request_while_asked_is_met : IsMetByRun line request_while_asked request_while_asked_moves
unfolding within longest line_start end extent beginning ◌>>◌ step new_world world_step line_beginning read_off
    quiet_turns play centres_show line_shows
request_while_asked_is_met = met_by_run line request_while_asked request_while_asked_moves refl refl refl

pub full_hand_at_the_border_is_met : IsMetByRun (line_of_a_and_b 32 4 100) full_hand_at_the_border
    full_hand_at_the_border_moves
unfolding within longest line_start end extent beginning ◌>>◌ step new_world world_step line_beginning read_off
    quiet_turns play centres_show line_shows
full_hand_at_the_border_is_met =
    met_by_run (line_of_a_and_b 32 4 100) full_hand_at_the_border full_hand_at_the_border_moves refl refl refl

pub pool_out_of_reach_is_met : IsMetByRun (line_of_a_and_b 10 10 2000) pool_out_of_reach pool_out_of_reach_moves
unfolding within longest line_start end extent beginning ◌>>◌ step new_world world_step line_beginning read_off
    quiet_turns play centres_show line_shows
pool_out_of_reach_is_met =
    met_by_run (line_of_a_and_b 10 10 2000) pool_out_of_reach pool_out_of_reach_moves refl refl refl

pub proposal_ends_with_the_mission_is_met : IsMetByRun line proposal_ends_with_the_mission
    proposal_ends_with_the_mission_moves
unfolding within longest line_start end extent beginning ◌>>◌ step new_world world_step line_beginning read_off
    quiet_turns play centres_show line_shows
proposal_ends_with_the_mission_is_met =
    met_by_run line proposal_ends_with_the_mission proposal_ends_with_the_mission_moves refl refl refl

-- The one line centre meets the answers of the centres in the scenes of Requests, computed.
use Rattle.std.proofs.Common.{refl}
use Rattle.rbc_spec.specs.Acts.{◌>>◌}
use Rattle.rbc_spec.specs.Centre.{beginning}
use Rattle.rbc_spec.specs.Line.{end, start as line_start}
use Rattle.rbc_spec.specs.LineCentre.{line_beginning}
use Rattle.rbc_spec.specs.Place.{extent}
use Rattle.rbc_spec.specs.ReadOff.{read_off}
use Rattle.rbc_spec.specs.SectionRuns.{longest, within}
use Rattle.rbc_spec.specs.Step.{step}
use Rattle.rbc_spec.specs.World.{new_world, world_step}
use Rattle.test_scenes.proofs.Pieces.{met_by_run}
use Rattle.test_scenes.specs.Moves.{play}
use Rattle.test_scenes.specs.Pieces.{centres_show, IsMetByRun, line_shows}
use Rattle.test_scenes.specs.Requests.{asks_again_each_round, early_frame, end_at_standstill}
use Rattle.test_scenes.specs.Requests.{end_at_standstill_with_a_wish, end_at_the_end_of_the_hand, end_before_the_hand}
use Rattle.test_scenes.specs.Requests.{end_of_mission, end_of_the_track, end_within_reach_of_the_message}
use Rattle.test_scenes.specs.Requests.{hand_of_32_sections, longest_authority, no_integrity_frees_nothing}
use Rattle.test_scenes.specs.Requests.{one_metre_too_far, report_clears, request_asks_over_the_border}
use Rattle.test_scenes.specs.Requests.{request_extends_over_the_border}
use Rattle.test_scenes.specs.Scene.{line, line_of_32_km, line_of_one, line_of_two_tracks}
use Rattle.test_scenes.specs.SceneMoves.{asks_again_each_round_moves, early_frame_moves, end_at_standstill_moves}
use Rattle.test_scenes.specs.SceneMoves.{end_at_standstill_with_a_wish_moves, end_at_the_end_of_the_hand_moves}
use Rattle.test_scenes.specs.SceneMoves.{end_before_the_hand_moves, end_of_mission_moves, end_of_the_track_moves}
use Rattle.test_scenes.specs.SceneMoves.{end_within_reach_of_the_message_moves, hand_of_32_sections_moves}
use Rattle.test_scenes.specs.SceneMoves.{longest_authority_moves, no_integrity_moves, one_metre_too_far_moves}
use Rattle.test_scenes.specs.SceneMoves.{over_the_border_moves, report_clears_moves, to_the_border_moves}
use Rattle.test_scenes.specs.Turns.{quiet_turns}

pub request_asks_over_the_border_is_met : IsMetByRun line request_asks_over_the_border to_the_border_moves
unfolding within longest line_start end extent beginning ◌>>◌ step new_world world_step line_beginning read_off
    quiet_turns play centres_show line_shows
request_asks_over_the_border_is_met = met_by_run line request_asks_over_the_border to_the_border_moves refl refl refl

pub asks_again_each_round_is_met : IsMetByRun line asks_again_each_round asks_again_each_round_moves
unfolding within longest line_start end extent beginning ◌>>◌ step new_world world_step line_beginning read_off
    quiet_turns play centres_show line_shows
asks_again_each_round_is_met = met_by_run line asks_again_each_round asks_again_each_round_moves refl refl refl

pub end_of_the_track_is_met : IsMetByRun line_of_two_tracks end_of_the_track end_of_the_track_moves
unfolding within longest line_start end extent beginning ◌>>◌ step new_world world_step line_beginning read_off
    quiet_turns play centres_show line_shows
end_of_the_track_is_met = met_by_run line_of_two_tracks end_of_the_track end_of_the_track_moves refl refl refl

pub report_clears_is_met : IsMetByRun line report_clears report_clears_moves
unfolding within longest line_start end extent beginning ◌>>◌ step new_world world_step line_beginning read_off
    quiet_turns play centres_show line_shows
report_clears_is_met = met_by_run line report_clears report_clears_moves refl refl refl

pub no_integrity_frees_nothing_is_met : IsMetByRun line no_integrity_frees_nothing no_integrity_moves
unfolding within longest line_start end extent beginning ◌>>◌ step new_world world_step line_beginning read_off
    quiet_turns play centres_show line_shows
no_integrity_frees_nothing_is_met = met_by_run line no_integrity_frees_nothing no_integrity_moves refl refl refl

pub request_extends_over_the_border_is_met : IsMetByRun line request_extends_over_the_border over_the_border_moves
unfolding within longest line_start end extent beginning ◌>>◌ step new_world world_step line_beginning read_off
    quiet_turns play centres_show line_shows
request_extends_over_the_border_is_met =
    met_by_run line request_extends_over_the_border over_the_border_moves refl refl refl

pub early_frame_is_met : IsMetByRun line early_frame early_frame_moves
unfolding within longest line_start end extent beginning ◌>>◌ step new_world world_step line_beginning read_off
    quiet_turns play centres_show line_shows
early_frame_is_met = met_by_run line early_frame early_frame_moves refl refl refl

pub hand_of_32_sections_is_met : IsMetByRun (line_of_one 40 100) hand_of_32_sections hand_of_32_sections_moves
unfolding within longest line_start end extent beginning ◌>>◌ step new_world world_step line_beginning read_off
    quiet_turns play centres_show line_shows
hand_of_32_sections_is_met =
    met_by_run (line_of_one 40 100) hand_of_32_sections hand_of_32_sections_moves refl refl refl

pub end_within_reach_of_the_message_is_met : IsMetByRun (line_of_one 20 2000) end_within_reach_of_the_message
    end_within_reach_of_the_message_moves
unfolding within longest line_start end extent beginning ◌>>◌ step new_world world_step line_beginning read_off
    quiet_turns play centres_show line_shows
end_within_reach_of_the_message_is_met =
    met_by_run (line_of_one 20 2000) end_within_reach_of_the_message end_within_reach_of_the_message_moves
    refl refl refl

pub longest_authority_is_met : IsMetByRun (line_of_32_km 767) longest_authority longest_authority_moves
unfolding within longest line_start end extent beginning ◌>>◌ step new_world world_step line_beginning read_off
    quiet_turns play centres_show line_shows
longest_authority_is_met = met_by_run (line_of_32_km 767) longest_authority longest_authority_moves refl refl refl

pub one_metre_too_far_is_met : IsMetByRun (line_of_32_km 768) one_metre_too_far one_metre_too_far_moves
unfolding within longest line_start end extent beginning ◌>>◌ step new_world world_step line_beginning read_off
    quiet_turns play centres_show line_shows
one_metre_too_far_is_met = met_by_run (line_of_32_km 768) one_metre_too_far one_metre_too_far_moves refl refl refl

pub end_of_mission_is_met : IsMetByRun line end_of_mission end_of_mission_moves
unfolding within longest line_start end extent beginning ◌>>◌ step new_world world_step line_beginning read_off
    quiet_turns play centres_show line_shows
end_of_mission_is_met = met_by_run line end_of_mission end_of_mission_moves refl refl refl

pub end_at_standstill_is_met : IsMetByRun line end_at_standstill end_at_standstill_moves
unfolding within longest line_start end extent beginning ◌>>◌ step new_world world_step line_beginning read_off
    quiet_turns play centres_show line_shows
end_at_standstill_is_met = met_by_run line end_at_standstill end_at_standstill_moves refl refl refl

pub end_at_standstill_with_a_wish_is_met : IsMetByRun line end_at_standstill_with_a_wish
    end_at_standstill_with_a_wish_moves
unfolding within longest line_start end extent beginning ◌>>◌ step new_world world_step line_beginning read_off
    quiet_turns play centres_show line_shows
end_at_standstill_with_a_wish_is_met =
    met_by_run line end_at_standstill_with_a_wish end_at_standstill_with_a_wish_moves refl refl refl

pub end_before_the_hand_is_met : IsMetByRun line end_before_the_hand end_before_the_hand_moves
unfolding within longest line_start end extent beginning ◌>>◌ step new_world world_step line_beginning read_off
    quiet_turns play centres_show line_shows
end_before_the_hand_is_met = met_by_run line end_before_the_hand end_before_the_hand_moves refl refl refl

pub end_at_the_end_of_the_hand_is_met : IsMetByRun line end_at_the_end_of_the_hand end_at_the_end_of_the_hand_moves
unfolding within longest line_start end extent beginning ◌>>◌ step new_world world_step line_beginning read_off
    quiet_turns play centres_show line_shows
end_at_the_end_of_the_hand_is_met =
    met_by_run line end_at_the_end_of_the_hand end_at_the_end_of_the_hand_moves refl refl refl

-- The one line centre meets the answers of the centres in the scenes of Starts, computed.
use Rattle.std.proofs.Common.{refl}
use Rattle.rbc_spec.specs.Acts.{◌>>◌}
use Rattle.rbc_spec.specs.Centre.{beginning}
use Rattle.rbc_spec.specs.Line.{end, start as line_start}
use Rattle.rbc_spec.specs.LineCentre.{line_beginning}
use Rattle.rbc_spec.specs.Place.{extent}
use Rattle.rbc_spec.specs.ReadOff.{read_off}
use Rattle.rbc_spec.specs.SectionRuns.{longest, within}
use Rattle.rbc_spec.specs.Step.{step}
use Rattle.rbc_spec.specs.World.{new_world, world_step}
use Rattle.test_scenes.proofs.Pieces.{met_by_run}
use Rattle.test_scenes.specs.Moves.{play}
use Rattle.test_scenes.specs.Pieces.{centres_show, IsMetByRun, line_shows}
use Rattle.test_scenes.specs.Scene.{line}
use Rattle.test_scenes.specs.SceneMoves.{ask_delivered_twice_moves, plain, right_comes_moves, right_is_refused_moves}
use Rattle.test_scenes.specs.SceneMoves.{right_serves_a_later_start_moves, start_moves, trains_are_named_moves}
use Rattle.test_scenes.specs.Starts.{ask_delivered_twice, first_reason, hand_outlives_the_session}
use Rattle.test_scenes.specs.Starts.{messages_before_the_session_is_up, messages_without_a_mission}
use Rattle.test_scenes.specs.Starts.{messages_without_a_session, nothing_happens, request_without_train_data}
use Rattle.test_scenes.specs.Starts.{right_comes, right_goes_back, right_is_refused, right_serves_a_later_start}
use Rattle.test_scenes.specs.Starts.{session_ends, session_opens, session_opens_again, session_opens_over_a_session}
use Rattle.test_scenes.specs.Starts.{set_and_unset, start_after_the_end_of_mission, start_at_a_shut_section}
use Rattle.test_scenes.specs.Starts.{start_at_the_registrar, trains_are_named, unset_of_the_first_section}
use Rattle.test_scenes.specs.Turns.{quiet_turns}

pub nothing_happens_is_met : IsMetByRun line nothing_happens (plain nothing_happens)
unfolding within longest line_start end extent beginning ◌>>◌ step new_world world_step line_beginning read_off
    quiet_turns play centres_show line_shows
nothing_happens_is_met = met_by_run line nothing_happens (plain nothing_happens) refl refl refl

pub set_and_unset_is_met : IsMetByRun line set_and_unset (plain set_and_unset)
unfolding within longest line_start end extent beginning ◌>>◌ step new_world world_step line_beginning read_off
    quiet_turns play centres_show line_shows
set_and_unset_is_met = met_by_run line set_and_unset (plain set_and_unset) refl refl refl

pub session_opens_is_met : IsMetByRun line session_opens (plain session_opens)
unfolding within longest line_start end extent beginning ◌>>◌ step new_world world_step line_beginning read_off
    quiet_turns play centres_show line_shows
session_opens_is_met = met_by_run line session_opens (plain session_opens) refl refl refl

pub session_opens_again_is_met : IsMetByRun line session_opens_again (plain session_opens_again)
unfolding within longest line_start end extent beginning ◌>>◌ step new_world world_step line_beginning read_off
    quiet_turns play centres_show line_shows
session_opens_again_is_met = met_by_run line session_opens_again (plain session_opens_again) refl refl refl

pub trains_are_named_is_met : IsMetByRun line trains_are_named trains_are_named_moves
unfolding within longest line_start end extent beginning ◌>>◌ step new_world world_step line_beginning read_off
    quiet_turns play centres_show line_shows
trains_are_named_is_met = met_by_run line trains_are_named trains_are_named_moves refl refl refl

pub session_opens_over_a_session_is_met : IsMetByRun line session_opens_over_a_session
    (plain session_opens_over_a_session)
unfolding within longest line_start end extent beginning ◌>>◌ step new_world world_step line_beginning read_off
    quiet_turns play centres_show line_shows
session_opens_over_a_session_is_met =
    met_by_run line session_opens_over_a_session (plain session_opens_over_a_session) refl refl refl

pub session_ends_is_met : IsMetByRun line session_ends (plain session_ends)
unfolding within longest line_start end extent beginning ◌>>◌ step new_world world_step line_beginning read_off
    quiet_turns play centres_show line_shows
session_ends_is_met = met_by_run line session_ends (plain session_ends) refl refl refl

pub messages_without_a_session_is_met : IsMetByRun line messages_without_a_session (plain messages_without_a_session)
unfolding within longest line_start end extent beginning ◌>>◌ step new_world world_step line_beginning read_off
    quiet_turns play centres_show line_shows
messages_without_a_session_is_met =
    met_by_run line messages_without_a_session (plain messages_without_a_session) refl refl refl

pub messages_before_the_session_is_up_is_met : IsMetByRun line messages_before_the_session_is_up
    (plain messages_before_the_session_is_up)
unfolding within longest line_start end extent beginning ◌>>◌ step new_world world_step line_beginning read_off
    quiet_turns play centres_show line_shows
messages_before_the_session_is_up_is_met =
    met_by_run line messages_before_the_session_is_up (plain messages_before_the_session_is_up) refl refl refl

pub messages_without_a_mission_is_met : IsMetByRun line messages_without_a_mission (plain messages_without_a_mission)
unfolding within longest line_start end extent beginning ◌>>◌ step new_world world_step line_beginning read_off
    quiet_turns play centres_show line_shows
messages_without_a_mission_is_met =
    met_by_run line messages_without_a_mission (plain messages_without_a_mission) refl refl refl

pub first_reason_is_met : IsMetByRun line first_reason (plain first_reason)
unfolding within longest line_start end extent beginning ◌>>◌ step new_world world_step line_beginning read_off
    quiet_turns play centres_show line_shows
first_reason_is_met = met_by_run line first_reason (plain first_reason) refl refl refl

pub start_at_the_registrar_is_met : IsMetByRun line start_at_the_registrar start_moves
unfolding within longest line_start end extent beginning ◌>>◌ step new_world world_step line_beginning read_off
    quiet_turns play centres_show line_shows
start_at_the_registrar_is_met = met_by_run line start_at_the_registrar start_moves refl refl refl

pub start_at_a_shut_section_is_met : IsMetByRun line start_at_a_shut_section (plain start_at_a_shut_section)
unfolding within longest line_start end extent beginning ◌>>◌ step new_world world_step line_beginning read_off
    quiet_turns play centres_show line_shows
start_at_a_shut_section_is_met = met_by_run line start_at_a_shut_section (plain start_at_a_shut_section) refl refl refl

pub request_without_train_data_is_met : IsMetByRun line request_without_train_data (plain request_without_train_data)
unfolding within longest line_start end extent beginning ◌>>◌ step new_world world_step line_beginning read_off
    quiet_turns play centres_show line_shows
request_without_train_data_is_met =
    met_by_run line request_without_train_data (plain request_without_train_data) refl refl refl

pub hand_outlives_the_session_is_met : IsMetByRun line hand_outlives_the_session (plain hand_outlives_the_session)
unfolding within longest line_start end extent beginning ◌>>◌ step new_world world_step line_beginning read_off
    quiet_turns play centres_show line_shows
hand_outlives_the_session_is_met =
    met_by_run line hand_outlives_the_session (plain hand_outlives_the_session) refl refl refl

pub start_after_the_end_of_mission_is_met : IsMetByRun line start_after_the_end_of_mission
    (plain start_after_the_end_of_mission)
unfolding within longest line_start end extent beginning ◌>>◌ step new_world world_step line_beginning read_off
    quiet_turns play centres_show line_shows
start_after_the_end_of_mission_is_met =
    met_by_run line start_after_the_end_of_mission (plain start_after_the_end_of_mission) refl refl refl

pub unset_of_the_first_section_is_met : IsMetByRun line unset_of_the_first_section (plain unset_of_the_first_section)
unfolding within longest line_start end extent beginning ◌>>◌ step new_world world_step line_beginning read_off
    quiet_turns play centres_show line_shows
unset_of_the_first_section_is_met =
    met_by_run line unset_of_the_first_section (plain unset_of_the_first_section) refl refl refl

pub right_comes_is_met : IsMetByRun line right_comes right_comes_moves
unfolding within longest line_start end extent beginning ◌>>◌ step new_world world_step line_beginning read_off
    quiet_turns play centres_show line_shows
right_comes_is_met = met_by_run line right_comes right_comes_moves refl refl refl

pub right_goes_back_is_met : IsMetByRun line right_goes_back (plain right_goes_back)
unfolding within longest line_start end extent beginning ◌>>◌ step new_world world_step line_beginning read_off
    quiet_turns play centres_show line_shows
right_goes_back_is_met = met_by_run line right_goes_back (plain right_goes_back) refl refl refl

pub right_serves_a_later_start_is_met : IsMetByRun line right_serves_a_later_start right_serves_a_later_start_moves
unfolding within longest line_start end extent beginning ◌>>◌ step new_world world_step line_beginning read_off
    quiet_turns play centres_show line_shows
right_serves_a_later_start_is_met =
    met_by_run line right_serves_a_later_start right_serves_a_later_start_moves refl refl refl

pub ask_delivered_twice_is_met : IsMetByRun line ask_delivered_twice ask_delivered_twice_moves
unfolding within longest line_start end extent beginning ◌>>◌ step new_world world_step line_beginning read_off
    quiet_turns play centres_show line_shows
ask_delivered_twice_is_met = met_by_run line ask_delivered_twice ask_delivered_twice_moves refl refl refl

pub right_is_refused_is_met : IsMetByRun line right_is_refused right_is_refused_moves
unfolding within longest line_start end extent beginning ◌>>◌ step new_world world_step line_beginning read_off
    quiet_turns play centres_show line_shows
right_is_refused_is_met = met_by_run line right_is_refused right_is_refused_moves refl refl refl

-- The views of the scenes of Starts, computed.
use Rattle.std.proofs.Common.{◌≡◌, refl}
use Rattle.rbc_spec.specs.Acts.{◌>>◌}
use Rattle.rbc_spec.specs.Centre.{beginning}
use Rattle.rbc_spec.specs.Line.{end, start as line_start}
use Rattle.rbc_spec.specs.Place.{extent}
use Rattle.rbc_spec.specs.SectionRuns.{longest, within}
use Rattle.rbc_spec.specs.Step.{step}
use Rattle.rbc_spec.specs.World.{new_world, world_step}
use Rattle.test_scenes.specs.Scene.{line, seen, seen_from}
use Rattle.test_scenes.specs.Starts.{ask_delivered_twice, ask_delivered_twice_shows, first_reason, first_reason_shows}
use Rattle.test_scenes.specs.Starts.{hand_outlives_the_session, hand_outlives_the_session_shows}
use Rattle.test_scenes.specs.Starts.{messages_before_the_session_is_up, messages_before_the_session_is_up_show}
use Rattle.test_scenes.specs.Starts.{messages_without_a_mission, messages_without_a_mission_show}
use Rattle.test_scenes.specs.Starts.{messages_without_a_session, messages_without_a_session_show, nothing_happens}
use Rattle.test_scenes.specs.Starts.{nothing_happens_shows, request_without_train_data}
use Rattle.test_scenes.specs.Starts.{request_without_train_data_shows, right_comes, right_comes_shows, right_goes_back}
use Rattle.test_scenes.specs.Starts.{right_goes_back_shows, right_is_refused, right_is_refused_shows}
use Rattle.test_scenes.specs.Starts.{right_serves_a_later_start, right_serves_a_later_start_shows, session_ends}
use Rattle.test_scenes.specs.Starts.{session_ends_shows, session_opens, session_opens_again, session_opens_again_shows}
use Rattle.test_scenes.specs.Starts.{session_opens_over_a_session, session_opens_over_a_session_shows}
use Rattle.test_scenes.specs.Starts.{session_opens_shows, set_and_unset, set_and_unset_shows}
use Rattle.test_scenes.specs.Starts.{start_after_the_end_of_mission, start_after_the_end_of_mission_shows}
use Rattle.test_scenes.specs.Starts.{start_at_a_shut_section, start_at_a_shut_section_shows, start_at_the_registrar}
use Rattle.test_scenes.specs.Starts.{start_at_the_registrar_shows, trains_are_named, trains_are_named_show}
use Rattle.test_scenes.specs.Starts.{unset_of_the_first_section, unset_of_the_first_section_shows}

pub nothing_happens_comes_out : seen line nothing_happens ≡ nothing_happens_shows
unfolding within longest line_start end extent beginning ◌>>◌ step new_world world_step seen seen_from
nothing_happens_comes_out = refl

pub set_and_unset_comes_out : seen line set_and_unset ≡ set_and_unset_shows
unfolding within longest line_start end extent beginning ◌>>◌ step new_world world_step seen seen_from
set_and_unset_comes_out = refl

pub session_opens_comes_out : seen line session_opens ≡ session_opens_shows
unfolding within longest line_start end extent beginning ◌>>◌ step new_world world_step seen seen_from
session_opens_comes_out = refl

pub session_opens_again_comes_out : seen line session_opens_again ≡ session_opens_again_shows
unfolding within longest line_start end extent beginning ◌>>◌ step new_world world_step seen seen_from
session_opens_again_comes_out = refl

pub trains_are_named_comes_out : seen line trains_are_named ≡ trains_are_named_show
unfolding within longest line_start end extent beginning ◌>>◌ step new_world world_step seen seen_from
trains_are_named_comes_out = refl

pub session_opens_over_a_session_comes_out : seen line session_opens_over_a_session ≡ session_opens_over_a_session_shows
unfolding within longest line_start end extent beginning ◌>>◌ step new_world world_step seen seen_from
session_opens_over_a_session_comes_out = refl

pub session_ends_comes_out : seen line session_ends ≡ session_ends_shows
unfolding within longest line_start end extent beginning ◌>>◌ step new_world world_step seen seen_from
session_ends_comes_out = refl

pub messages_without_a_session_comes_out : seen line messages_without_a_session ≡ messages_without_a_session_show
unfolding within longest line_start end extent beginning ◌>>◌ step new_world world_step seen seen_from
messages_without_a_session_comes_out = refl

pub messages_before_the_session_is_up_comes_out : seen line messages_before_the_session_is_up
    ≡ messages_before_the_session_is_up_show
unfolding within longest line_start end extent beginning ◌>>◌ step new_world world_step seen seen_from
messages_before_the_session_is_up_comes_out = refl

pub messages_without_a_mission_comes_out : seen line messages_without_a_mission ≡ messages_without_a_mission_show
unfolding within longest line_start end extent beginning ◌>>◌ step new_world world_step seen seen_from
messages_without_a_mission_comes_out = refl

pub first_reason_comes_out : seen line first_reason ≡ first_reason_shows
unfolding within longest line_start end extent beginning ◌>>◌ step new_world world_step seen seen_from
first_reason_comes_out = refl

pub start_at_the_registrar_comes_out : seen line start_at_the_registrar ≡ start_at_the_registrar_shows
unfolding within longest line_start end extent beginning ◌>>◌ step new_world world_step seen seen_from
start_at_the_registrar_comes_out = refl

pub start_at_a_shut_section_comes_out : seen line start_at_a_shut_section ≡ start_at_a_shut_section_shows
unfolding within longest line_start end extent beginning ◌>>◌ step new_world world_step seen seen_from
start_at_a_shut_section_comes_out = refl

pub request_without_train_data_comes_out : seen line request_without_train_data ≡ request_without_train_data_shows
unfolding within longest line_start end extent beginning ◌>>◌ step new_world world_step seen seen_from
request_without_train_data_comes_out = refl

pub hand_outlives_the_session_comes_out : seen line hand_outlives_the_session ≡ hand_outlives_the_session_shows
unfolding within longest line_start end extent beginning ◌>>◌ step new_world world_step seen seen_from
hand_outlives_the_session_comes_out = refl

pub start_after_the_end_of_mission_comes_out : seen line start_after_the_end_of_mission
    ≡ start_after_the_end_of_mission_shows
unfolding within longest line_start end extent beginning ◌>>◌ step new_world world_step seen seen_from
start_after_the_end_of_mission_comes_out = refl

pub unset_of_the_first_section_comes_out : seen line unset_of_the_first_section ≡ unset_of_the_first_section_shows
unfolding within longest line_start end extent beginning ◌>>◌ step new_world world_step seen seen_from
unset_of_the_first_section_comes_out = refl

pub right_comes_comes_out : seen line right_comes ≡ right_comes_shows
unfolding within longest line_start end extent beginning ◌>>◌ step new_world world_step seen seen_from
right_comes_comes_out = refl

pub right_goes_back_comes_out : seen line right_goes_back ≡ right_goes_back_shows
unfolding within longest line_start end extent beginning ◌>>◌ step new_world world_step seen seen_from
right_goes_back_comes_out = refl

pub right_serves_a_later_start_comes_out : seen line right_serves_a_later_start ≡ right_serves_a_later_start_shows
unfolding within longest line_start end extent beginning ◌>>◌ step new_world world_step seen seen_from
right_serves_a_later_start_comes_out = refl

pub ask_delivered_twice_comes_out : seen line ask_delivered_twice ≡ ask_delivered_twice_shows
unfolding within longest line_start end extent beginning ◌>>◌ step new_world world_step seen seen_from
ask_delivered_twice_comes_out = refl

pub right_is_refused_comes_out : seen line right_is_refused ≡ right_is_refused_shows
unfolding within longest line_start end extent beginning ◌>>◌ step new_world world_step seen seen_from
right_is_refused_comes_out = refl

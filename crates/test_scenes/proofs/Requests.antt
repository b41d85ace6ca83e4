-- The views of the scenes of Requests, computed.
use Rattle.std.proofs.Common.{◌≡◌, refl}
use Rattle.rbc_spec.specs.Acts.{◌>>◌}
use Rattle.rbc_spec.specs.Centre.{beginning}
use Rattle.rbc_spec.specs.Line.{end, start as line_start}
use Rattle.rbc_spec.specs.Place.{extent}
use Rattle.rbc_spec.specs.SectionRuns.{longest, within}
use Rattle.rbc_spec.specs.Step.{step}
use Rattle.rbc_spec.specs.World.{new_world, world_step}
use Rattle.test_scenes.specs.Requests.{asks_again_each_round, asks_again_each_round_shows, early_frame}
use Rattle.test_scenes.specs.Requests.{early_frame_shows, end_at_standstill, end_at_standstill_shows}
use Rattle.test_scenes.specs.Requests.{end_at_standstill_with_a_wish, end_at_standstill_with_a_wish_shows}
use Rattle.test_scenes.specs.Requests.{end_at_the_end_of_the_hand, end_at_the_end_of_the_hand_shows}
use Rattle.test_scenes.specs.Requests.{end_before_the_hand, end_before_the_hand_shows, end_of_mission}
use Rattle.test_scenes.specs.Requests.{end_of_mission_shows, end_of_the_track, end_of_the_track_shows}
use Rattle.test_scenes.specs.Requests.{end_within_reach_of_the_message, end_within_reach_of_the_message_shows}
use Rattle.test_scenes.specs.Requests.{hand_of_32_sections, hand_of_32_sections_shows, longest_authority}
use Rattle.test_scenes.specs.Requests.{longest_authority_shows, no_integrity_frees_nothing}
use Rattle.test_scenes.specs.Requests.{no_integrity_frees_nothing_shows, one_metre_too_far, one_metre_too_far_shows}
use Rattle.test_scenes.specs.Requests.{report_clears, report_clears_shows, request_asks_over_the_border}
use Rattle.test_scenes.specs.Requests.{request_asks_over_the_border_shows, request_extends_over_the_border}
use Rattle.test_scenes.specs.Requests.{request_extends_over_the_border_shows}
use Rattle.test_scenes.specs.Scene.{line, line_of_32_km, line_of_one, line_of_two_tracks, seen, seen_from}

pub request_asks_over_the_border_comes_out : seen line request_asks_over_the_border ≡ request_asks_over_the_border_shows
unfolding within longest line_start end extent beginning ◌>>◌ step new_world world_step seen seen_from
request_asks_over_the_border_comes_out = refl

pub asks_again_each_round_comes_out : seen line asks_again_each_round ≡ asks_again_each_round_shows
unfolding within longest line_start end extent beginning ◌>>◌ step new_world world_step seen seen_from
asks_again_each_round_comes_out = refl

pub end_of_the_track_comes_out : seen line_of_two_tracks end_of_the_track ≡ end_of_the_track_shows
unfolding within longest line_start end extent beginning ◌>>◌ step new_world world_step seen seen_from
end_of_the_track_comes_out = refl

pub report_clears_comes_out : seen line report_clears ≡ report_clears_shows
unfolding within longest line_start end extent beginning ◌>>◌ step new_world world_step seen seen_from
report_clears_comes_out = refl

pub no_integrity_frees_nothing_comes_out : seen line no_integrity_frees_nothing ≡ no_integrity_frees_nothing_shows
unfolding within longest line_start end extent beginning ◌>>◌ step new_world world_step seen seen_from
no_integrity_frees_nothing_comes_out = refl

pub request_extends_over_the_border_comes_out : seen line request_extends_over_the_border
    ≡ request_extends_over_the_border_shows
unfolding within longest line_start end extent beginning ◌>>◌ step new_world world_step seen seen_from
request_extends_over_the_border_comes_out = refl

pub early_frame_comes_out : seen line early_frame ≡ early_frame_shows
unfolding within longest line_start end extent beginning ◌>>◌ step new_world world_step seen seen_from
early_frame_comes_out = refl

pub hand_of_32_sections_comes_out : seen (line_of_one 40 100) hand_of_32_sections ≡ hand_of_32_sections_shows
unfolding within longest line_start end extent beginning ◌>>◌ step new_world world_step seen seen_from
hand_of_32_sections_comes_out = refl

pub end_within_reach_of_the_message_comes_out : seen (line_of_one 20 2000) end_within_reach_of_the_message
    ≡ end_within_reach_of_the_message_shows
unfolding within longest line_start end extent beginning ◌>>◌ step new_world world_step seen seen_from
end_within_reach_of_the_message_comes_out = refl

pub longest_authority_comes_out : seen (line_of_32_km 767) longest_authority ≡ longest_authority_shows
unfolding within longest line_start end extent beginning ◌>>◌ step new_world world_step seen seen_from
longest_authority_comes_out = refl

pub one_metre_too_far_comes_out : seen (line_of_32_km 768) one_metre_too_far ≡ one_metre_too_far_shows
unfolding within longest line_start end extent beginning ◌>>◌ step new_world world_step seen seen_from
one_metre_too_far_comes_out = refl

pub end_of_mission_comes_out : seen line end_of_mission ≡ end_of_mission_shows
unfolding within longest line_start end extent beginning ◌>>◌ step new_world world_step seen seen_from
end_of_mission_comes_out = refl

pub end_at_standstill_comes_out : seen line end_at_standstill ≡ end_at_standstill_shows
unfolding within longest line_start end extent beginning ◌>>◌ step new_world world_step seen seen_from
end_at_standstill_comes_out = refl

pub end_at_standstill_with_a_wish_comes_out : seen line end_at_standstill_with_a_wish
    ≡ end_at_standstill_with_a_wish_shows
unfolding within longest line_start end extent beginning ◌>>◌ step new_world world_step seen seen_from
end_at_standstill_with_a_wish_comes_out = refl

pub end_before_the_hand_comes_out : seen line end_before_the_hand ≡ end_before_the_hand_shows
unfolding within longest line_start end extent beginning ◌>>◌ step new_world world_step seen seen_from
end_before_the_hand_comes_out = refl

pub end_at_the_end_of_the_hand_comes_out : seen line end_at_the_end_of_the_hand ≡ end_at_the_end_of_the_hand_shows
unfolding within longest line_start end extent beginning ◌>>◌ step new_world world_step seen seen_from
end_at_the_end_of_the_hand_comes_out = refl

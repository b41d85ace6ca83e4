-- The views of the scenes of Conditions, computed.
use Rattle.std.proofs.Common.{◌≡◌, refl}
use Rattle.rbc_spec.specs.Acts.{◌>>◌}
use Rattle.rbc_spec.specs.Centre.{beginning}
use Rattle.rbc_spec.specs.Line.{end, start as line_start}
use Rattle.rbc_spec.specs.Place.{extent}
use Rattle.rbc_spec.specs.SectionRuns.{longest, within}
use Rattle.rbc_spec.specs.Step.{step}
use Rattle.rbc_spec.specs.World.{new_world, world_step}
use Rattle.test_scenes.specs.Conditions.{cut_beyond_the_border, cut_beyond_the_border_shows, cut_with_a_pool}
use Rattle.test_scenes.specs.Conditions.{cut_with_a_pool_shows, front_before_the_hand, front_before_the_hand_shows}
use Rattle.test_scenes.specs.Conditions.{front_in_the_section, front_in_the_section_shows, full_hand_at_the_border}
use Rattle.test_scenes.specs.Conditions.{full_hand_at_the_border_shows, pool_out_of_reach, pool_out_of_reach_shows}
use Rattle.test_scenes.specs.Conditions.{proposal_ends_with_the_mission, proposal_ends_with_the_mission_shows}
use Rattle.test_scenes.specs.Conditions.{proposal_ends_with_the_session, proposal_ends_with_the_session_shows}
use Rattle.test_scenes.specs.Conditions.{request_again_over_the_border, request_again_over_the_border_shows}
use Rattle.test_scenes.specs.Conditions.{request_while_asked, request_while_asked_shows, section_out_of_reach}
use Rattle.test_scenes.specs.Conditions.{section_out_of_reach_shows, start_outside_the_hand}
use Rattle.test_scenes.specs.Conditions.{start_outside_the_hand_shows, unset_after_the_end, unset_after_the_end_shows}
use Rattle.test_scenes.specs.Conditions.{unset_again, unset_again_shows, unset_without_a_session}
use Rattle.test_scenes.specs.Conditions.{unset_without_a_session_shows, yield_with_a_pool, yield_with_a_pool_shows}
use Rattle.test_scenes.specs.Scene.{line, line_of_a_and_b, line_of_one, seen, seen_from}

pub unset_without_a_session_comes_out : seen line unset_without_a_session ≡ unset_without_a_session_shows
unfolding within longest line_start end extent beginning ◌>>◌ step new_world world_step seen seen_from
unset_without_a_session_comes_out = refl

pub unset_after_the_end_comes_out : seen line unset_after_the_end ≡ unset_after_the_end_shows
unfolding within longest line_start end extent beginning ◌>>◌ step new_world world_step seen seen_from
unset_after_the_end_comes_out = refl

pub unset_again_comes_out : seen line unset_again ≡ unset_again_shows
unfolding within longest line_start end extent beginning ◌>>◌ step new_world world_step seen seen_from
unset_again_comes_out = refl

pub front_before_the_hand_comes_out : seen line front_before_the_hand ≡ front_before_the_hand_shows
unfolding within longest line_start end extent beginning ◌>>◌ step new_world world_step seen seen_from
front_before_the_hand_comes_out = refl

pub front_in_the_section_comes_out : seen line front_in_the_section ≡ front_in_the_section_shows
unfolding within longest line_start end extent beginning ◌>>◌ step new_world world_step seen seen_from
front_in_the_section_comes_out = refl

pub section_out_of_reach_comes_out : seen (line_of_one 20 2000) section_out_of_reach ≡ section_out_of_reach_shows
unfolding within longest line_start end extent beginning ◌>>◌ step new_world world_step seen seen_from
section_out_of_reach_comes_out = refl

pub yield_with_a_pool_comes_out : seen line yield_with_a_pool ≡ yield_with_a_pool_shows
unfolding within longest line_start end extent beginning ◌>>◌ step new_world world_step seen seen_from
yield_with_a_pool_comes_out = refl

pub cut_with_a_pool_comes_out : seen line cut_with_a_pool ≡ cut_with_a_pool_shows
unfolding within longest line_start end extent beginning ◌>>◌ step new_world world_step seen seen_from
cut_with_a_pool_comes_out = refl

pub cut_beyond_the_border_comes_out : seen line cut_beyond_the_border ≡ cut_beyond_the_border_shows
unfolding within longest line_start end extent beginning ◌>>◌ step new_world world_step seen seen_from
cut_beyond_the_border_comes_out = refl

pub proposal_ends_with_the_session_comes_out : seen line proposal_ends_with_the_session
    ≡ proposal_ends_with_the_session_shows
unfolding within longest line_start end extent beginning ◌>>◌ step new_world world_step seen seen_from
proposal_ends_with_the_session_comes_out = refl

pub start_outside_the_hand_comes_out : seen line start_outside_the_hand ≡ start_outside_the_hand_shows
unfolding within longest line_start end extent beginning ◌>>◌ step new_world world_step seen seen_from
start_outside_the_hand_comes_out = refl

pub request_again_over_the_border_comes_out : seen line request_again_over_the_border
    ≡ request_again_over_the_border_shows
unfolding within longest line_start end extent beginning ◌>>◌ step new_world world_step seen seen_from
request_again_over_the_border_comes_out = refl

pub request_while_asked_comes_out : seen line request_while_asked ≡ request_while_asked_shows
unfolding within longest line_start end extent beginning ◌>>◌ step new_world world_step seen seen_from
request_while_asked_comes_out = refl

pub full_hand_at_the_border_comes_out : seen (line_of_a_and_b 32 4 100) full_hand_at_the_border
    ≡ full_hand_at_the_border_shows
unfolding within longest line_start end extent beginning ◌>>◌ step new_world world_step seen seen_from
full_hand_at_the_border_comes_out = refl

pub pool_out_of_reach_comes_out : seen (line_of_a_and_b 10 10 2000) pool_out_of_reach ≡ pool_out_of_reach_shows
unfolding within longest line_start end extent beginning ◌>>◌ step new_world world_step seen seen_from
pool_out_of_reach_comes_out = refl

pub proposal_ends_with_the_mission_comes_out : seen line proposal_ends_with_the_mission
    ≡ proposal_ends_with_the_mission_shows
unfolding within longest line_start end extent beginning ◌>>◌ step new_world world_step seen seen_from
proposal_ends_with_the_mission_comes_out = refl

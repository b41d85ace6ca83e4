-- The views of the scenes of Races, computed.
use Rattle.std.proofs.Common.{◌≡◌, refl}
use Rattle.rbc_spec.specs.Acts.{◌>>◌}
use Rattle.rbc_spec.specs.Centre.{beginning}
use Rattle.rbc_spec.specs.Line.{end, start as line_start}
use Rattle.rbc_spec.specs.Place.{extent}
use Rattle.rbc_spec.specs.SectionRuns.{longest, within}
use Rattle.rbc_spec.specs.Step.{step}
use Rattle.rbc_spec.specs.World.{new_world, world_step}
use Rattle.test_scenes.specs.Races.{awaited, awaited_shows, cleared_elsewhere, cleared_elsewhere_shows}
use Rattle.test_scenes.specs.Races.{cleared_over_the_border, cleared_over_the_border_shows, cleared_with_a_pool}
use Rattle.test_scenes.specs.Races.{cleared_with_a_pool_shows, end_of_mission_with_a_pool}
use Rattle.test_scenes.specs.Races.{end_of_mission_with_a_pool_shows, first_of_the_pool_withdrawn}
use Rattle.test_scenes.specs.Races.{first_of_the_pool_withdrawn_shows, last_of_the_pool_withdrawn}
use Rattle.test_scenes.specs.Races.{last_of_the_pool_withdrawn_shows, route_after_the_yield}
use Rattle.test_scenes.specs.Races.{route_after_the_yield_shows, route_for_an_ended_mission}
use Rattle.test_scenes.specs.Races.{route_for_an_ended_mission_shows, session_opens_over_a_waiting_start}
use Rattle.test_scenes.specs.Races.{session_opens_over_a_waiting_start_shows, whole_hand_is_cut}
use Rattle.test_scenes.specs.Races.{whole_hand_is_cut_shows, wish_at_the_yield, wish_at_the_yield_shows}
use Rattle.test_scenes.specs.Races.{withdrawn_from_the_pool, withdrawn_from_the_pool_shows}
use Rattle.test_scenes.specs.Scene.{line, seen, seen_from}

pub withdrawn_from_the_pool_comes_out : seen line withdrawn_from_the_pool ≡ withdrawn_from_the_pool_shows
unfolding within longest line_start end extent beginning ◌>>◌ step new_world world_step seen seen_from
withdrawn_from_the_pool_comes_out = refl

pub first_of_the_pool_withdrawn_comes_out : seen line first_of_the_pool_withdrawn ≡ first_of_the_pool_withdrawn_shows
unfolding within longest line_start end extent beginning ◌>>◌ step new_world world_step seen seen_from
first_of_the_pool_withdrawn_comes_out = refl

pub last_of_the_pool_withdrawn_comes_out : seen line last_of_the_pool_withdrawn ≡ last_of_the_pool_withdrawn_shows
unfolding within longest line_start end extent beginning ◌>>◌ step new_world world_step seen seen_from
last_of_the_pool_withdrawn_comes_out = refl

pub route_for_an_ended_mission_comes_out : seen line route_for_an_ended_mission ≡ route_for_an_ended_mission_shows
unfolding within longest line_start end extent beginning ◌>>◌ step new_world world_step seen seen_from
route_for_an_ended_mission_comes_out = refl

pub end_of_mission_with_a_pool_comes_out : seen line end_of_mission_with_a_pool ≡ end_of_mission_with_a_pool_shows
unfolding within longest line_start end extent beginning ◌>>◌ step new_world world_step seen seen_from
end_of_mission_with_a_pool_comes_out = refl

pub awaited_comes_out : seen line awaited ≡ awaited_shows
unfolding within longest line_start end extent beginning ◌>>◌ step new_world world_step seen seen_from
awaited_comes_out = refl

pub route_after_the_yield_comes_out : seen line route_after_the_yield ≡ route_after_the_yield_shows
unfolding within longest line_start end extent beginning ◌>>◌ step new_world world_step seen seen_from
route_after_the_yield_comes_out = refl

pub wish_at_the_yield_comes_out : seen line wish_at_the_yield ≡ wish_at_the_yield_shows
unfolding within longest line_start end extent beginning ◌>>◌ step new_world world_step seen seen_from
wish_at_the_yield_comes_out = refl

pub cleared_elsewhere_comes_out : seen line cleared_elsewhere ≡ cleared_elsewhere_shows
unfolding within longest line_start end extent beginning ◌>>◌ step new_world world_step seen seen_from
cleared_elsewhere_comes_out = refl

pub cleared_with_a_pool_comes_out : seen line cleared_with_a_pool ≡ cleared_with_a_pool_shows
unfolding within longest line_start end extent beginning ◌>>◌ step new_world world_step seen seen_from
cleared_with_a_pool_comes_out = refl

pub cleared_over_the_border_comes_out : seen line cleared_over_the_border ≡ cleared_over_the_border_shows
unfolding within longest line_start end extent beginning ◌>>◌ step new_world world_step seen seen_from
cleared_over_the_border_comes_out = refl

pub whole_hand_is_cut_comes_out : seen line whole_hand_is_cut ≡ whole_hand_is_cut_shows
unfolding within longest line_start end extent beginning ◌>>◌ step new_world world_step seen seen_from
whole_hand_is_cut_comes_out = refl

pub session_opens_over_a_waiting_start_comes_out : seen line session_opens_over_a_waiting_start
    ≡ session_opens_over_a_waiting_start_shows
unfolding within longest line_start end extent beginning ◌>>◌ step new_world world_step seen seen_from
session_opens_over_a_waiting_start_comes_out = refl

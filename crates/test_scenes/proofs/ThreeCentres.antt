-- The views of the scenes of ThreeCentres, computed.
use Rattle.std.proofs.Common.{◌≡◌, refl}
use Rattle.rbc_spec.specs.Acts.{◌>>◌}
use Rattle.rbc_spec.specs.Centre.{beginning}
use Rattle.rbc_spec.specs.Line.{end, start as line_start}
use Rattle.rbc_spec.specs.Place.{extent}
use Rattle.rbc_spec.specs.SectionRuns.{longest, within}
use Rattle.rbc_spec.specs.Step.{step}
use Rattle.rbc_spec.specs.World.{new_world, world_step}
use Rattle.test_scenes.specs.Scene.{line_of_three, seen, seen_from}
use Rattle.test_scenes.specs.ThreeCentres.{any_two_are_linked, any_two_are_linked_shows, border_of_the_first}
use Rattle.test_scenes.specs.ThreeCentres.{border_of_the_first_shows, each_home_gets_its_section_back}
use Rattle.test_scenes.specs.ThreeCentres.{each_home_gets_its_section_back_shows, ended_mission_is_yielded}
use Rattle.test_scenes.specs.ThreeCentres.{ended_mission_is_yielded_shows, second_takes_over, second_takes_over_shows}
use Rattle.test_scenes.specs.ThreeCentres.{stands_still_before_the_third, stands_still_before_the_third_shows}
use Rattle.test_scenes.specs.ThreeCentres.{wish_at_a_third_centre, wish_at_a_third_centre_shows}
use Rattle.test_scenes.specs.ThreeCentres.{yield_with_a_third_home, yield_with_a_third_home_shows}

pub border_of_the_first_comes_out : seen (line_of_three 0) border_of_the_first ≡ border_of_the_first_shows
unfolding within longest line_start end extent beginning ◌>>◌ step new_world world_step seen seen_from
border_of_the_first_comes_out = refl

pub second_takes_over_comes_out : seen (line_of_three 0) second_takes_over ≡ second_takes_over_shows
unfolding within longest line_start end extent beginning ◌>>◌ step new_world world_step seen seen_from
second_takes_over_comes_out = refl

pub yield_with_a_third_home_comes_out : seen (line_of_three 0) yield_with_a_third_home ≡ yield_with_a_third_home_shows
unfolding within longest line_start end extent beginning ◌>>◌ step new_world world_step seen seen_from
yield_with_a_third_home_comes_out = refl

pub wish_at_a_third_centre_comes_out : seen (line_of_three 0) wish_at_a_third_centre ≡ wish_at_a_third_centre_shows
unfolding within longest line_start end extent beginning ◌>>◌ step new_world world_step seen seen_from
wish_at_a_third_centre_comes_out = refl

pub any_two_are_linked_comes_out : seen (line_of_three 1) any_two_are_linked ≡ any_two_are_linked_shows
unfolding within longest line_start end extent beginning ◌>>◌ step new_world world_step seen seen_from
any_two_are_linked_comes_out = refl

pub each_home_gets_its_section_back_comes_out : seen (line_of_three 0) each_home_gets_its_section_back
    ≡ each_home_gets_its_section_back_shows
unfolding within longest line_start end extent beginning ◌>>◌ step new_world world_step seen seen_from
each_home_gets_its_section_back_comes_out = refl

pub ended_mission_is_yielded_comes_out : seen (line_of_three 0) ended_mission_is_yielded
    ≡ ended_mission_is_yielded_shows
unfolding within longest line_start end extent beginning ◌>>◌ step new_world world_step seen seen_from
ended_mission_is_yielded_comes_out = refl

pub stands_still_before_the_third_comes_out : seen (line_of_three 0) stands_still_before_the_third
    ≡ stands_still_before_the_third_shows
unfolding within longest line_start end extent beginning ◌>>◌ step new_world world_step seen seen_from
stands_still_before_the_third_comes_out = refl

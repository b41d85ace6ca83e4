-- The one line centre meets the answers of the centres in the scenes of ThreeCentres, computed.
use Rattle.std.proofs.Common.{refl}
use Rattle.rbc_spec.specs.Acts.{◌>>◌}
use Rattle.rbc_spec.specs.Centre.{beginning}
use Rattle.rbc_spec.specs.Line.{end, start as line_start}
use Rattle.rbc_spec.specs.LineCentre.{line_beginning}
use Rattle.rbc_spec.specs.Place.{extent}
use Rattle.rbc_spec.specs.ReadOff.{read_off}
use Rattle.rbc_spec.specs.SectionRuns.{longest, within}
use Rattle.rbc_spec.specs.Step.{step}
use Rattle.rbc_spec.specs.World.{new_world, world_step}
use Rattle.test_scenes.proofs.Pieces.{met_by_run}
use Rattle.test_scenes.specs.LateMoves.{any_two_are_linked_moves, each_home_gets_its_section_back_moves}
use Rattle.test_scenes.specs.LateMoves.{ended_mission_is_yielded_moves, from_the_first_moves, from_the_second_moves}
use Rattle.test_scenes.specs.LateMoves.{stands_still_before_the_third_moves, wish_at_a_third_centre_moves}
use Rattle.test_scenes.specs.LateMoves.{yield_with_a_third_home_moves}
use Rattle.test_scenes.specs.Moves.{play}
use Rattle.test_scenes.specs.Pieces.{centres_show, IsMetByRun, line_shows}
use Rattle.test_scenes.specs.Scene.{line_of_three}
use Rattle.test_scenes.specs.ThreeCentres.{any_two_are_linked, border_of_the_first, each_home_gets_its_section_back}
use Rattle.test_scenes.specs.ThreeCentres.{ended_mission_is_yielded, second_takes_over, stands_still_before_the_third}
use Rattle.test_scenes.specs.ThreeCentres.{wish_at_a_third_centre, yield_with_a_third_home}
use Rattle.test_scenes.specs.Turns.{quiet_turns}

pub border_of_the_first_is_met : IsMetByRun (line_of_three 0) border_of_the_first from_the_first_moves
unfolding within longest line_start end extent beginning ◌>>◌ step new_world world_step line_beginning read_off
    quiet_turns play centres_show line_shows
border_of_the_first_is_met = met_by_run (line_of_three 0) border_of_the_first from_the_first_moves refl refl refl

pub second_takes_over_is_met : IsMetByRun (line_of_three 0) second_takes_over from_the_second_moves
unfolding within longest line_start end extent beginning ◌>>◌ step new_world world_step line_beginning read_off
    quiet_turns play centres_show line_shows
second_takes_over_is_met = met_by_run (line_of_three 0) second_takes_over from_the_second_moves refl refl refl

pub yield_with_a_third_home_is_met : IsMetByRun (line_of_three 0) yield_with_a_third_home yield_with_a_third_home_moves
unfolding within longest line_start end extent beginning ◌>>◌ step new_world world_step line_beginning read_off
    quiet_turns play centres_show line_shows
yield_with_a_third_home_is_met =
    met_by_run (line_of_three 0) yield_with_a_third_home yield_with_a_third_home_moves refl refl refl

pub wish_at_a_third_centre_is_met : IsMetByRun (line_of_three 0) wish_at_a_third_centre wish_at_a_third_centre_moves
unfolding within longest line_start end extent beginning ◌>>◌ step new_world world_step line_beginning read_off
    quiet_turns play centres_show line_shows
wish_at_a_third_centre_is_met =
    met_by_run (line_of_three 0) wish_at_a_third_centre wish_at_a_third_centre_moves refl refl refl

pub any_two_are_linked_is_met : IsMetByRun (line_of_three 1) any_two_are_linked any_two_are_linked_moves
unfolding within longest line_start end extent beginning ◌>>◌ step new_world world_step line_beginning read_off
    quiet_turns play centres_show line_shows
any_two_are_linked_is_met = met_by_run (line_of_three 1) any_two_are_linked any_two_are_linked_moves refl refl refl

pub each_home_gets_its_section_back_is_met : IsMetByRun (line_of_three 0) each_home_gets_its_section_back
    each_home_gets_its_section_back_moves
unfolding within longest line_start end extent beginning ◌>>◌ step new_world world_step line_beginning read_off
    quiet_turns play centres_show line_shows
each_home_gets_its_section_back_is_met =
    met_by_run (line_of_three 0) each_home_gets_its_section_back each_home_gets_its_section_back_moves refl refl refl

pub ended_mission_is_yielded_is_met : IsMetByRun (line_of_three 0) ended_mission_is_yielded
    ended_mission_is_yielded_moves
unfolding within longest line_start end extent beginning ◌>>◌ step new_world world_step line_beginning read_off
    quiet_turns play centres_show line_shows
ended_mission_is_yielded_is_met =
    met_by_run (line_of_three 0) ended_mission_is_yielded ended_mission_is_yielded_moves refl refl refl

pub stands_still_before_the_third_is_met : IsMetByRun (line_of_three 0) stands_still_before_the_third
    stands_still_before_the_third_moves
unfolding within longest line_start end extent beginning ◌>>◌ step new_world world_step line_beginning read_off
    quiet_turns play centres_show line_shows
stands_still_before_the_third_is_met =
    met_by_run (line_of_three 0) stands_still_before_the_third stands_still_before_the_third_moves refl refl refl

-- The one line centre meets the answers of the centres in the scenes of Places, computed.
use Rattle.std.proofs.Common.{refl}
use Rattle.rbc_spec.specs.Acts.{◌>>◌}
use Rattle.rbc_spec.specs.Centre.{beginning}
use Rattle.rbc_spec.specs.Line.{end, start as line_start}
use Rattle.rbc_spec.specs.LineCentre.{line_beginning}
use Rattle.rbc_spec.specs.Place.{extent}
use Rattle.rbc_spec.specs.ReadOff.{read_off}
use Rattle.rbc_spec.specs.SectionRuns.{longest, within}
use Rattle.rbc_spec.specs.Step.{step}
use Rattle.rbc_spec.specs.World.{new_world, world_step}
use Rattle.test_scenes.proofs.Pieces.{met_by_run}
use Rattle.test_scenes.specs.Moves.{play}
use Rattle.test_scenes.specs.Pieces.{centres_show, IsMetByRun, line_shows}
use Rattle.test_scenes.specs.PlaceMoves.{hand_out_of_reach_moves, other_scale_moves, own_stamp_after_a_yield_moves}
use Rattle.test_scenes.specs.PlaceMoves.{requests_without_place_moves}
use Rattle.test_scenes.specs.Places.{hand_out_of_reach, longest_train, other_scale, own_stamp_after_a_yield}
use Rattle.test_scenes.specs.Places.{reports_without_place, requests_without_place, starts_that_are_not_fit}
use Rattle.test_scenes.specs.Scene.{line, line_of_one}
use Rattle.test_scenes.specs.SceneMoves.{plain}
use Rattle.test_scenes.specs.Turns.{quiet_turns}

pub reports_without_place_is_met : IsMetByRun line reports_without_place (plain reports_without_place)
unfolding within longest line_start end extent beginning ◌>>◌ step new_world world_step line_beginning read_off
    quiet_turns play centres_show line_shows
reports_without_place_is_met = met_by_run line reports_without_place (plain reports_without_place) refl refl refl

pub requests_without_place_is_met : IsMetByRun line requests_without_place requests_without_place_moves
unfolding within longest line_start end extent beginning ◌>>◌ step new_world world_step line_beginning read_off
    quiet_turns play centres_show line_shows
requests_without_place_is_met = met_by_run line requests_without_place requests_without_place_moves refl refl refl

pub hand_out_of_reach_is_met : IsMetByRun (line_of_one 20 2000) hand_out_of_reach hand_out_of_reach_moves
unfolding within longest line_start end extent beginning ◌>>◌ step new_world world_step line_beginning read_off
    quiet_turns play centres_show line_shows
hand_out_of_reach_is_met = met_by_run (line_of_one 20 2000) hand_out_of_reach hand_out_of_reach_moves refl refl refl

pub starts_that_are_not_fit_is_met : IsMetByRun (line_of_one 8 1000) starts_that_are_not_fit
    (plain starts_that_are_not_fit)
unfolding within longest line_start end extent beginning ◌>>◌ step new_world world_step line_beginning read_off
    quiet_turns play centres_show line_shows
starts_that_are_not_fit_is_met =
    met_by_run (line_of_one 8 1000) starts_that_are_not_fit (plain starts_that_are_not_fit) refl refl refl

pub longest_train_is_met : IsMetByRun (line_of_one 40 100) longest_train (plain longest_train)
unfolding within longest line_start end extent beginning ◌>>◌ step new_world world_step line_beginning read_off
    quiet_turns play centres_show line_shows
longest_train_is_met = met_by_run (line_of_one 40 100) longest_train (plain longest_train) refl refl refl

pub other_scale_is_met : IsMetByRun line other_scale other_scale_moves
unfolding within longest line_start end extent beginning ◌>>◌ step new_world world_step line_beginning read_off
    quiet_turns play centres_show line_shows
other_scale_is_met = met_by_run line other_scale other_scale_moves refl refl refl

pub own_stamp_after_a_yield_is_met : IsMetByRun line own_stamp_after_a_yield own_stamp_after_a_yield_moves
unfolding within longest line_start end extent beginning ◌>>◌ step new_world world_step line_beginning read_off
    quiet_turns play centres_show line_shows
own_stamp_after_a_yield_is_met = met_by_run line own_stamp_after_a_yield own_stamp_after_a_yield_moves refl refl refl

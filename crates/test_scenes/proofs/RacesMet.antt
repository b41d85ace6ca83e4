-- The one line centre meets the answers of the centres in the scenes of Races, computed.
use Rattle.std.proofs.Common.{refl}
use Rattle.rbc_spec.specs.Acts.{◌>>◌}
use Rattle.rbc_spec.specs.Centre.{beginning}
use Rattle.rbc_spec.specs.Line.{end, start as line_start}
use Rattle.rbc_spec.specs.LineCentre.{line_beginning}
use Rattle.rbc_spec.specs.Place.{extent}
use Rattle.rbc_spec.specs.ReadOff.{read_off}
use Rattle.rbc_spec.specs.SectionRuns.{longest, within}
use Rattle.rbc_spec.specs.Step.{step}
use Rattle.rbc_spec.specs.World.{new_world, world_step}
use Rattle.test_scenes.proofs.Pieces.{met_by_run}
use Rattle.test_scenes.specs.LateMoves.{awaited_moves, cleared_elsewhere_moves, cleared_over_the_border_moves}
use Rattle.test_scenes.specs.LateMoves.{cleared_with_a_pool_moves, end_of_mission_with_a_pool_moves}
use Rattle.test_scenes.specs.LateMoves.{first_of_the_pool_withdrawn_moves, last_of_the_pool_withdrawn_moves}
use Rattle.test_scenes.specs.LateMoves.{route_after_the_yield_moves, route_for_an_ended_mission_moves}
use Rattle.test_scenes.specs.LateMoves.{whole_hand_is_cut_moves, wish_at_the_yield_moves, withdrawn_from_the_pool_moves}
use Rattle.test_scenes.specs.Moves.{play}
use Rattle.test_scenes.specs.Pieces.{centres_show, IsMetByRun, line_shows}
use Rattle.test_scenes.specs.Races.{awaited, cleared_elsewhere, cleared_over_the_border, cleared_with_a_pool}
use Rattle.test_scenes.specs.Races.{end_of_mission_with_a_pool, first_of_the_pool_withdrawn, last_of_the_pool_withdrawn}
use Rattle.test_scenes.specs.Races.{route_after_the_yield, route_for_an_ended_mission}
use Rattle.test_scenes.specs.Races.{session_opens_over_a_waiting_start, whole_hand_is_cut, wish_at_the_yield}
use Rattle.test_scenes.specs.Races.{withdrawn_from_the_pool}
use Rattle.test_scenes.specs.Scene.{line}
use Rattle.test_scenes.specs.SceneMoves.{plain}
use Rattle.test_scenes.specs.Turns.{quiet_turns}

pub withdrawn_from_the_pool_is_met : IsMetByRun line withdrawn_from_the_pool withdrawn_from_the_pool_moves
unfolding within longest line_start end extent beginning ◌>>◌ step new_world world_step line_beginning read_off
    quiet_turns play centres_show line_shows
withdrawn_from_the_pool_is_met = met_by_run line withdrawn_from_the_pool withdrawn_from_the_pool_moves refl refl refl

pub first_of_the_pool_withdrawn_is_met : IsMetByRun line first_of_the_pool_withdrawn first_of_the_pool_withdrawn_moves
unfolding within longest line_start end extent beginning ◌>>◌ step new_world world_step line_beginning read_off
    quiet_turns play centres_show line_shows
first_of_the_pool_withdrawn_is_met =
    met_by_run line first_of_the_pool_withdrawn first_of_the_pool_withdrawn_moves refl refl refl

pub last_of_the_pool_withdrawn_is_met : IsMetByRun line last_of_the_pool_withdrawn last_of_the_pool_withdrawn_moves
unfolding within longest line_start end extent beginning ◌>>◌ step new_world world_step line_beginning read_off
    quiet_turns play centres_show line_shows
last_of_the_pool_withdrawn_is_met =
    met_by_run line last_of_the_pool_withdrawn last_of_the_pool_withdrawn_moves refl refl refl

pub route_for_an_ended_mission_is_met : IsMetByRun line route_for_an_ended_mission route_for_an_ended_mission_moves
unfolding within longest line_start end extent beginning ◌>>◌ step new_world world_step line_beginning read_off
    quiet_turns play centres_show line_shows
route_for_an_ended_mission_is_met =
    met_by_run line route_for_an_ended_mission route_for_an_ended_mission_moves refl refl refl

pub end_of_mission_with_a_pool_is_met : IsMetByRun line end_of_mission_with_a_pool end_of_mission_with_a_pool_moves
unfolding within longest line_start end extent beginning ◌>>◌ step new_world world_step line_beginning read_off
    quiet_turns play centres_show line_shows
end_of_mission_with_a_pool_is_met =
    met_by_run line end_of_mission_with_a_pool end_of_mission_with_a_pool_moves refl refl refl

pub awaited_is_met : IsMetByRun line awaited awaited_moves
unfolding within longest line_start end extent beginning ◌>>◌ step new_world world_step line_beginning read_off
    quiet_turns play centres_show line_shows
awaited_is_met = met_by_run line awaited awaited_moves refl refl refl

pub route_after_the_yield_is_met : IsMetByRun line route_after_the_yield route_after_the_yield_moves
unfolding within longest line_start end extent beginning ◌>>◌ step new_world world_step line_beginning read_off
    quiet_turns play centres_show line_shows
route_after_the_yield_is_met = met_by_run line route_after_the_yield route_after_the_yield_moves refl refl refl

pub wish_at_the_yield_is_met : IsMetByRun line wish_at_the_yield wish_at_the_yield_moves
unfolding within longest line_start end extent beginning ◌>>◌ step new_world world_step line_beginning read_off
    quiet_turns play centres_show line_shows
wish_at_the_yield_is_met = met_by_run line wish_at_the_yield wish_at_the_yield_moves refl refl refl

pub cleared_elsewhere_is_met : IsMetByRun line cleared_elsewhere cleared_elsewhere_moves
unfolding within longest line_start end extent beginning ◌>>◌ step new_world world_step line_beginning read_off
    quiet_turns play centres_show line_shows
cleared_elsewhere_is_met = met_by_run line cleared_elsewhere cleared_elsewhere_moves refl refl refl

pub cleared_with_a_pool_is_met : IsMetByRun line cleared_with_a_pool cleared_with_a_pool_moves
unfolding within longest line_start end extent beginning ◌>>◌ step new_world world_step line_beginning read_off
    quiet_turns play centres_show line_shows
cleared_with_a_pool_is_met = met_by_run line cleared_with_a_pool cleared_with_a_pool_moves refl refl refl

pub cleared_over_the_border_is_met : IsMetByRun line cleared_over_the_border cleared_over_the_border_moves
unfolding within longest line_start end extent beginning ◌>>◌ step new_world world_step line_beginning read_off
    quiet_turns play centres_show line_shows
cleared_over_the_border_is_met = met_by_run line cleared_over_the_border cleared_over_the_border_moves refl refl refl

pub whole_hand_is_cut_is_met : IsMetByRun line whole_hand_is_cut whole_hand_is_cut_moves
unfolding within longest line_start end extent beginning ◌>>◌ step new_world world_step line_beginning read_off
    quiet_turns play centres_show line_shows
whole_hand_is_cut_is_met = met_by_run line whole_hand_is_cut whole_hand_is_cut_moves refl refl refl

pub session_opens_over_a_waiting_start_is_met : IsMetByRun line session_opens_over_a_waiting_start
    (plain session_opens_over_a_waiting_start)
unfolding within longest line_start end extent beginning ◌>>◌ step new_world world_step line_beginning read_off
    quiet_turns play centres_show line_shows
session_opens_over_a_waiting_start_is_met =
    met_by_run line session_opens_over_a_waiting_start (plain session_opens_over_a_waiting_start) refl refl refl

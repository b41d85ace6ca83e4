-- The one line centre meets the answers of the centres in the scenes of Handover, computed.
use Rattle.std.proofs.Common.{refl}
use Rattle.rbc_spec.specs.Acts.{◌>>◌}
use Rattle.rbc_spec.specs.Centre.{beginning}
use Rattle.rbc_spec.specs.Line.{end, start as line_start}
use Rattle.rbc_spec.specs.LineCentre.{line_beginning}
use Rattle.rbc_spec.specs.Place.{extent}
use Rattle.rbc_spec.specs.ReadOff.{read_off}
use Rattle.rbc_spec.specs.SectionRuns.{longest, within}
use Rattle.rbc_spec.specs.Step.{step}
use Rattle.rbc_spec.specs.World.{new_world, world_step}
use Rattle.test_scenes.proofs.Pieces.{met_by_run}
use Rattle.test_scenes.specs.Handover.{cancelled_before_taking_over, handover, return_after_handover}
use Rattle.test_scenes.specs.Handover.{yield_carries_the_last_stamp_heard}
use Rattle.test_scenes.specs.Moves.{play}
use Rattle.test_scenes.specs.Pieces.{centres_show, IsMetByRun, line_shows}
use Rattle.test_scenes.specs.Scene.{line}
use Rattle.test_scenes.specs.SceneMoves.{cancelled_moves, handed_over_moves, last_stamp_heard_moves, return_moves}
use Rattle.test_scenes.specs.Turns.{quiet_turns}

pub handover_is_met : IsMetByRun line handover (handed_over_moves 7)
unfolding within longest line_start end extent beginning ◌>>◌ step new_world world_step line_beginning read_off
    quiet_turns play centres_show line_shows
handover_is_met = met_by_run line handover (handed_over_moves 7) refl refl refl

pub return_after_handover_is_met : IsMetByRun line return_after_handover return_moves
unfolding within longest line_start end extent beginning ◌>>◌ step new_world world_step line_beginning read_off
    quiet_turns play centres_show line_shows
return_after_handover_is_met = met_by_run line return_after_handover return_moves refl refl refl

pub yield_carries_the_last_stamp_heard_is_met : IsMetByRun line yield_carries_the_last_stamp_heard
    last_stamp_heard_moves
unfolding within longest line_start end extent beginning ◌>>◌ step new_world world_step line_beginning read_off
    quiet_turns play centres_show line_shows
yield_carries_the_last_stamp_heard_is_met =
    met_by_run line yield_carries_the_last_stamp_heard last_stamp_heard_moves refl refl refl

pub cancelled_before_taking_over_is_met : IsMetByRun line cancelled_before_taking_over cancelled_moves
unfolding within longest line_start end extent beginning ◌>>◌ step new_world world_step line_beginning read_off
    quiet_turns play centres_show line_shows
cancelled_before_taking_over_is_met = met_by_run line cancelled_before_taking_over cancelled_moves refl refl refl

-- The views of the scenes of Handover, computed.
use Rattle.std.proofs.Common.{◌≡◌, refl}
use Rattle.rbc_spec.specs.Acts.{◌>>◌}
use Rattle.rbc_spec.specs.Centre.{beginning}
use Rattle.rbc_spec.specs.Line.{end, start as line_start}
use Rattle.rbc_spec.specs.Place.{extent}
use Rattle.rbc_spec.specs.SectionRuns.{longest, within}
use Rattle.rbc_spec.specs.Step.{step}
use Rattle.rbc_spec.specs.World.{new_world, world_step}
use Rattle.test_scenes.specs.Handover.{cancelled_before_taking_over, cancelled_before_taking_over_shows, handover}
use Rattle.test_scenes.specs.Handover.{handover_shows, return_after_handover, return_after_handover_shows}
use Rattle.test_scenes.specs.Handover.{yield_carries_the_last_stamp_heard, yield_carries_the_last_stamp_heard_shows}
use Rattle.test_scenes.specs.Scene.{line, seen, seen_from}

pub handover_comes_out : seen line handover ≡ handover_shows
unfolding within longest line_start end extent beginning ◌>>◌ step new_world world_step seen seen_from
handover_comes_out = refl

pub return_after_handover_comes_out : seen line return_after_handover ≡ return_after_handover_shows
unfolding within longest line_start end extent beginning ◌>>◌ step new_world world_step seen seen_from
return_after_handover_comes_out = refl

pub yield_carries_the_last_stamp_heard_comes_out : seen line yield_carries_the_last_stamp_heard
    ≡ yield_carries_the_last_stamp_heard_shows
unfolding within longest line_start end extent beginning ◌>>◌ step new_world world_step seen seen_from
yield_carries_the_last_stamp_heard_comes_out = refl

pub cancelled_before_taking_over_comes_out : seen line cancelled_before_taking_over ≡ cancelled_before_taking_over_shows
unfolding within longest line_start end extent beginning ◌>>◌ step new_world world_step seen seen_from
cancelled_before_taking_over_comes_out = refl

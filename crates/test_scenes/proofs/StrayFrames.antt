-- The effects of the frames of StrayFrames, computed.
use Rattle.std.proofs.Common.{[], ◌∷◌, ◌≡◌, refl, Some}
use Rattle.rbc_spec.specs.Acts.{◌>>◌}
use Rattle.rbc_spec.specs.Centre.{beginning}
use Rattle.rbc_spec.specs.Frame.{TakingOver}
use Rattle.rbc_spec.specs.Line.{end, start as line_start}
use Rattle.rbc_spec.specs.Place.{extent}
use Rattle.rbc_spec.specs.SectionRuns.{longest, within}
use Rattle.rbc_spec.specs.Step.{step}
use Rattle.rbc_spec.specs.World.{new_world, world_run, world_step}
use Rattle.test_scenes.specs.Scene.{line, times}
use Rattle.test_scenes.specs.StrayFrames.{announcing, asking, calm_announcing, calm_asking, calm_expecting, calm_taking}
use Rattle.test_scenes.specs.StrayFrames.{centre_after, deliveries, effects, expecting, fronts_before_the_track}
use Rattle.test_scenes.specs.StrayFrames.{mission_at, missions_taken, strays_from_c, strays_to_a}
use Rattle.test_scenes.specs.StrayFrames.{strays_to_the_announcing, strays_to_the_expecting, strays_to_the_taking}
use Rattle.test_scenes.specs.StrayFrames.{taken_without_effect, taking_over}

pub strays_to_a_come_to_nothing : effects line 0 1 asking strays_to_a ≡ times 24 calm_asking
unfolding within longest line_start end extent beginning ◌>>◌ step new_world world_step world_run centre_after
strays_to_a_come_to_nothing = refl

pub strays_from_c_come_to_nothing : effects line 0 2 asking strays_from_c ≡ times 1 calm_asking
unfolding within longest line_start end extent beginning ◌>>◌ step new_world world_step world_run centre_after
strays_from_c_come_to_nothing = refl

pub strays_to_the_announcing_come_to_nothing : effects line 0 1 announcing strays_to_the_announcing
    ≡ times 3 calm_announcing
unfolding within longest line_start end extent beginning ◌>>◌ step new_world world_step world_run centre_after
strays_to_the_announcing_come_to_nothing = refl

pub strays_of_another_centre_come_to_nothing : effects line 0 2 announcing (TakingOver 1 1 ∷ [])
    ≡ times 1 calm_announcing
unfolding within longest line_start end extent beginning ◌>>◌ step new_world world_step world_run centre_after
strays_of_another_centre_come_to_nothing = refl

pub strays_to_the_expecting_come_to_nothing : effects line 1 0 expecting strays_to_the_expecting
    ≡ times 4 calm_expecting
unfolding within longest line_start end extent beginning ◌>>◌ step new_world world_step world_run centre_after
strays_to_the_expecting_come_to_nothing = refl

pub strays_to_the_taking_come_to_nothing : effects line 1 0 taking_over strays_to_the_taking ≡ times 8 calm_taking
unfolding within longest line_start end extent beginning ◌>>◌ step new_world world_step world_run centre_after
strays_to_the_taking_come_to_nothing = refl

pub fronts_before_the_track_come_to_nothing : deliveries line 1 0 4 taking_over fronts_before_the_track
    ≡ times 2 (taken_without_effect 4 calm_taking)
unfolding within longest line_start end extent beginning ◌>>◌ step new_world world_step world_run centre_after
fronts_before_the_track_come_to_nothing = refl

pub yields_are_taken : missions_taken ≡ Some (mission_at 16200) ∷ Some (mission_at 10000) ∷ []
unfolding within longest line_start end extent beginning ◌>>◌ step new_world world_step world_run centre_after
yields_are_taken = refl

-- The views of the scenes of Shortening, computed.
use Rattle.std.proofs.Common.{◌≡◌, refl}
use Rattle.rbc_spec.specs.Acts.{◌>>◌}
use Rattle.rbc_spec.specs.Centre.{beginning}
use Rattle.rbc_spec.specs.Line.{end, start as line_start}
use Rattle.rbc_spec.specs.Place.{extent}
use Rattle.rbc_spec.specs.SectionRuns.{longest, within}
use Rattle.rbc_spec.specs.Step.{step}
use Rattle.rbc_spec.specs.World.{new_world, world_step}
use Rattle.test_scenes.specs.Scene.{line, line_of_one, seen, seen_from}
use Rattle.test_scenes.specs.Shortening.{another_answer_at_the_border, another_answer_at_the_border_shows}
use Rattle.test_scenes.specs.Shortening.{answer_to_another_proposal, answer_to_another_proposal_shows}
use Rattle.test_scenes.specs.Shortening.{asking_again_tries_again, asking_again_tries_again_shows}
use Rattle.test_scenes.specs.Shortening.{granted_past_the_proposed_end, granted_past_the_proposed_end_shows}
use Rattle.test_scenes.specs.Shortening.{shortening_and_a_late_route, shortening_and_a_late_route_shows}
use Rattle.test_scenes.specs.Shortening.{shortening_in_one_centre, shortening_in_one_centre_shows}
use Rattle.test_scenes.specs.Shortening.{start_drops_the_proposal, start_drops_the_proposal_shows, unset_in_a_hand}
use Rattle.test_scenes.specs.Shortening.{unset_in_a_hand_shows}

pub unset_in_a_hand_comes_out : seen line unset_in_a_hand ≡ unset_in_a_hand_shows
unfolding within longest line_start end extent beginning ◌>>◌ step new_world world_step seen seen_from
unset_in_a_hand_comes_out = refl

pub start_drops_the_proposal_comes_out : seen (line_of_one 8 1000) start_drops_the_proposal
    ≡ start_drops_the_proposal_shows
unfolding within longest line_start end extent beginning ◌>>◌ step new_world world_step seen seen_from
start_drops_the_proposal_comes_out = refl

pub shortening_in_one_centre_comes_out : seen (line_of_one 8 1000) shortening_in_one_centre
    ≡ shortening_in_one_centre_shows
unfolding within longest line_start end extent beginning ◌>>◌ step new_world world_step seen seen_from
shortening_in_one_centre_comes_out = refl

pub shortening_and_a_late_route_comes_out : seen line shortening_and_a_late_route ≡ shortening_and_a_late_route_shows
unfolding within longest line_start end extent beginning ◌>>◌ step new_world world_step seen seen_from
shortening_and_a_late_route_comes_out = refl

pub answer_to_another_proposal_comes_out : seen line answer_to_another_proposal ≡ answer_to_another_proposal_shows
unfolding within longest line_start end extent beginning ◌>>◌ step new_world world_step seen seen_from
answer_to_another_proposal_comes_out = refl

pub granted_past_the_proposed_end_comes_out : seen line granted_past_the_proposed_end
    ≡ granted_past_the_proposed_end_shows
unfolding within longest line_start end extent beginning ◌>>◌ step new_world world_step seen seen_from
granted_past_the_proposed_end_comes_out = refl

pub another_answer_at_the_border_comes_out : seen line another_answer_at_the_border ≡ another_answer_at_the_border_shows
unfolding within longest line_start end extent beginning ◌>>◌ step new_world world_step seen seen_from
another_answer_at_the_border_comes_out = refl

pub asking_again_tries_again_comes_out : seen line asking_again_tries_again ≡ asking_again_tries_again_shows
unfolding within longest line_start end extent beginning ◌>>◌ step new_world world_step seen seen_from
asking_again_tries_again_comes_out = refl

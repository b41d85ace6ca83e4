-- The views of the scenes of Places, computed.
use Rattle.std.proofs.Common.{◌≡◌, refl}
use Rattle.rbc_spec.specs.Acts.{◌>>◌}
use Rattle.rbc_spec.specs.Centre.{beginning}
use Rattle.rbc_spec.specs.Line.{end, start as line_start}
use Rattle.rbc_spec.specs.Place.{extent}
use Rattle.rbc_spec.specs.SectionRuns.{longest, within}
use Rattle.rbc_spec.specs.Step.{step}
use Rattle.rbc_spec.specs.World.{new_world, world_step}
use Rattle.test_scenes.specs.Places.{hand_out_of_reach, hand_out_of_reach_shows, longest_train, longest_train_shows}
use Rattle.test_scenes.specs.Places.{other_scale, other_scale_shows, own_stamp_after_a_yield}
use Rattle.test_scenes.specs.Places.{own_stamp_after_a_yield_shows, reports_without_place, reports_without_place_shows}
use Rattle.test_scenes.specs.Places.{requests_without_place, requests_without_place_show, starts_that_are_not_fit}
use Rattle.test_scenes.specs.Places.{starts_that_are_not_fit_show}
use Rattle.test_scenes.specs.Scene.{line, line_of_one, seen, seen_from}

pub reports_without_place_comes_out : seen line reports_without_place ≡ reports_without_place_shows
unfolding within longest line_start end extent beginning ◌>>◌ step new_world world_step seen seen_from
reports_without_place_comes_out = refl

pub requests_without_place_comes_out : seen line requests_without_place ≡ requests_without_place_show
unfolding within longest line_start end extent beginning ◌>>◌ step new_world world_step seen seen_from
requests_without_place_comes_out = refl

pub hand_out_of_reach_comes_out : seen (line_of_one 20 2000) hand_out_of_reach ≡ hand_out_of_reach_shows
unfolding within longest line_start end extent beginning ◌>>◌ step new_world world_step seen seen_from
hand_out_of_reach_comes_out = refl

pub starts_that_are_not_fit_comes_out : seen (line_of_one 8 1000) starts_that_are_not_fit ≡ starts_that_are_not_fit_show
unfolding within longest line_start end extent beginning ◌>>◌ step new_world world_step seen seen_from
starts_that_are_not_fit_comes_out = refl

pub longest_train_comes_out : seen (line_of_one 40 100) longest_train ≡ longest_train_shows
unfolding within longest line_start end extent beginning ◌>>◌ step new_world world_step seen seen_from
longest_train_comes_out = refl

pub other_scale_comes_out : seen line other_scale ≡ other_scale_shows
unfolding within longest line_start end extent beginning ◌>>◌ step new_world world_step seen seen_from
other_scale_comes_out = refl

pub own_stamp_after_a_yield_comes_out : seen line own_stamp_after_a_yield ≡ own_stamp_after_a_yield_shows
unfolding within longest line_start end extent beginning ◌>>◌ step new_world world_step seen seen_from
own_stamp_after_a_yield_comes_out = refl

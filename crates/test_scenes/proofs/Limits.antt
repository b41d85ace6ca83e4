-- The steps of Limits, computed.
use Rattle.std.proofs.Common.{[], ◌∷◌, ◌≡◌, Err, None, Ok, refl}
use Rattle.rbc_spec.specs.Acts.{◌>>◌}
use Rattle.rbc_spec.specs.Centre.{beginning}
use Rattle.rbc_spec.specs.Frame.{RouteAsk}
use Rattle.rbc_spec.specs.Line.{end, start}
use Rattle.rbc_spec.specs.Place.{extent}
use Rattle.rbc_spec.specs.SectionRuns.{longest, within}
use Rattle.rbc_spec.specs.Step.{LinkFull, Set, step}
use Rattle.rbc_spec.specs.World.{new_world, world_run, world_step}
use Rattle.test_scenes.specs.Limits.{asks_ahead, frame_without_a_link, frame_without_a_link_shows, having_sent}
use Rattle.test_scenes.specs.Limits.{last_stamp_is_taken, last_stamp_is_taken_shows, run_items, set_and_session}
use Rattle.test_scenes.specs.Limits.{set_and_session_shows, stamp_past_the_last, stamp_past_the_last_shows, stamps}
use Rattle.test_scenes.specs.Scene.{line, line_of_three}

pub last_stamp_is_taken_comes_out : stamps line last_stamp_is_taken (beginning line 0) ≡ last_stamp_is_taken_shows
unfolding within longest start end extent beginning ◌>>◌ step stamps
last_stamp_is_taken_comes_out = refl

pub stamp_past_the_last_comes_out : stamps line stamp_past_the_last (beginning line 0) ≡ stamp_past_the_last_shows
unfolding within longest start end extent beginning ◌>>◌ step stamps
stamp_past_the_last_comes_out = refl

pub frame_without_a_link_comes_out : stamps (line_of_three 1) frame_without_a_link (beginning (line_of_three 1) 0)
    ≡ frame_without_a_link_shows
unfolding within longest start end extent beginning ◌>>◌ step stamps
frame_without_a_link_comes_out = refl

pub three_numbers_left : stamps line (Set 0 ∷ []) (having_sent 65533) ≡ Err LinkFull ∷ []
unfolding within longest start end extent beginning ◌>>◌ step stamps
three_numbers_left = refl

pub four_numbers_left : stamps line (Set 0 ∷ []) (having_sent 65532) ≡ Ok (1, None) ∷ []
unfolding within longest start end extent beginning ◌>>◌ step stamps
four_numbers_left = refl

pub set_and_session_comes_out : run_items (world_run line (new_world line) set_and_session) ≡ set_and_session_shows
unfolding within longest start end extent beginning ◌>>◌ step new_world world_step world_run
set_and_session_comes_out = refl

pub asks_for_a_full_hand : asks_ahead (record { first = 470; count = 5 }) ≡ RouteAsk 1 475 27 ∷ []
unfolding beginning ◌>>◌
asks_for_a_full_hand = refl

pub asks_for_no_513th_section : asks_ahead (record { first = 490; count = 5 }) ≡ RouteAsk 1 495 17 ∷ []
unfolding beginning ◌>>◌
asks_for_no_513th_section = refl

-- The scenes of trains, computed.
use Rattle.std.proofs.Common.{[], ◌≡◌, refl, Some, true}
use Rattle.law_outside.specs.Outside.{front_end}
use Rattle.law_trains.specs.Trains.{stands_on}
use Rattle.rbc_spec.specs.Acts.{◌>>◌}
use Rattle.rbc_spec.specs.Centre.{beginning}
use Rattle.rbc_spec.specs.Line.{end, start as line_start}
use Rattle.rbc_spec.specs.Place.{extent}
use Rattle.rbc_spec.specs.SectionRuns.{longest, within}
use Rattle.rbc_spec.specs.Step.{step}
use Rattle.rbc_spec.specs.World.{new_world, world_step}
use Rattle.test_scenes.specs.FollowScenes.{another_centre, before_the_acknowledgement, centre_after_a_grant}
use Rattle.test_scenes.specs.FollowScenes.{centre_at_standstill, data_before_a_grant, data_before_standstill}
use Rattle.test_scenes.specs.FollowScenes.{end_after_a_grant, end_at_standstill, over_three_centres}
use Rattle.test_scenes.specs.RuleParts.{five_rules, IsNeeded, played}
use Rattle.test_scenes.specs.RuleScenes.{clock_set_back, front_in_rear, past_the_end, rear_in_advance}
use Rattle.test_scenes.specs.RuleScenes.{request_not_heard, without_an_authority}

pub one_clock : IsNeeded clock_set_back
unfolding within longest line_start end extent beginning ◌>>◌ step new_world world_step front_end played
one_clock = record { allowed = refl; wrong = refl; forbidden = refl; safe = refl }

pub true_front : IsNeeded front_in_rear
unfolding within longest line_start end extent beginning ◌>>◌ step new_world world_step front_end played
true_front = record { allowed = refl; wrong = refl; forbidden = refl; safe = refl }

pub true_rear : IsNeeded rear_in_advance
unfolding within longest line_start end extent beginning ◌>>◌ step new_world world_step front_end played
true_rear = record { allowed = refl; wrong = refl; forbidden = refl; safe = refl }

pub heard_request : IsNeeded request_not_heard
unfolding within longest line_start end extent beginning ◌>>◌ step new_world world_step front_end played
heard_request = record { allowed = refl; wrong = refl; forbidden = refl; safe = refl }

pub end_after_grant : IsNeeded end_after_a_grant
unfolding within longest line_start end extent beginning ◌>>◌ step new_world world_step front_end played
end_after_grant = record { allowed = refl; wrong = refl; forbidden = refl; safe = refl }

pub centre_after_grant : IsNeeded centre_after_a_grant
unfolding within longest line_start end extent beginning ◌>>◌ step new_world world_step front_end played
centre_after_grant = record { allowed = refl; wrong = refl; forbidden = refl; safe = refl }

pub data_after_grant : IsNeeded data_before_a_grant
unfolding within longest line_start end extent beginning ◌>>◌ step new_world world_step front_end played
data_after_grant = record { allowed = refl; wrong = refl; forbidden = refl; safe = refl }

pub end_at_a_standstill : IsNeeded end_at_standstill
unfolding within longest line_start end extent beginning ◌>>◌ step new_world world_step front_end played
end_at_a_standstill = record { allowed = refl; wrong = refl; forbidden = refl; safe = refl }

pub centre_at_a_standstill : IsNeeded centre_at_standstill
unfolding within longest line_start end extent beginning ◌>>◌ step new_world world_step front_end played
centre_at_a_standstill = record { allowed = refl; wrong = refl; forbidden = refl; safe = refl }

pub data_at_a_standstill : IsNeeded data_before_standstill
unfolding within longest line_start end extent beginning ◌>>◌ step new_world world_step front_end played
data_at_a_standstill = record { allowed = refl; wrong = refl; forbidden = refl; safe = refl }

pub followed_centre : IsNeeded another_centre
unfolding within longest line_start end extent beginning ◌>>◌ step new_world world_step front_end played
followed_centre = record { allowed = refl; wrong = refl; forbidden = refl; safe = refl }

pub since_acknowledged : IsNeeded before_the_acknowledgement
unfolding within longest line_start end extent beginning ◌>>◌ step new_world world_step front_end played
since_acknowledged = record { allowed = refl; wrong = refl; forbidden = refl; safe = refl }

pub to_the_end : IsNeeded past_the_end
unfolding within longest line_start end extent beginning ◌>>◌ step new_world world_step front_end played
to_the_end = record { allowed = refl; wrong = refl; forbidden = refl; safe = refl }

pub with_authority : IsNeeded without_an_authority
unfolding within longest line_start end extent beginning ◌>>◌ step new_world world_step front_end played
with_authority = record { allowed = refl; wrong = refl; forbidden = refl; safe = refl }

pub three_allowed : (played five_rules over_three_centres).forbidden ≡ []
unfolding within longest line_start end extent beginning ◌>>◌ step new_world world_step front_end played
three_allowed = refl

pub three_safe : (played five_rules over_three_centres).is_safe ≡ true
unfolding within longest line_start end extent beginning ◌>>◌ step new_world world_step front_end played
three_safe = refl

pub three_follows : ((played five_rules over_three_centres).loop.train 1).follows
    ≡ Some (record { centre = 2; stamp = 2 })
unfolding within longest line_start end extent beginning ◌>>◌ step new_world world_step front_end played
three_follows = refl

pub three_end : ((played five_rules over_three_centres).loop.train 1).end ≡ Some 600
unfolding within longest line_start end extent beginning ◌>>◌ step new_world world_step front_end played
three_end = refl

pub three_first : stands_on over_three_centres.line ((played five_rules over_three_centres).loop.train 1) 5 ≡ true
unfolding within longest line_start end extent beginning ◌>>◌ step new_world world_step front_end played
three_first = refl

pub three_second : stands_on over_three_centres.line ((played five_rules over_three_centres).loop.train 2) 6 ≡ true
unfolding within longest line_start end extent beginning ◌>>◌ step new_world world_step front_end played
three_second = refl

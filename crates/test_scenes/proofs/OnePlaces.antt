-- In the scenes each thing stays in one place, computed.
use Rattle.std.proofs.Common.{[], ◌∷◌, ◌≡◌, false, refl, true}
use Rattle.std.specs.List.{list_all}
use Rattle.rbc_spec.specs.Acts.{◌>>◌}
use Rattle.rbc_spec.specs.Centre.{beginning}
use Rattle.rbc_spec.specs.Line.{end, start as line_start}
use Rattle.rbc_spec.specs.Place.{extent}
use Rattle.rbc_spec.specs.SectionRuns.{longest, within}
use Rattle.rbc_spec.specs.Step.{step}
use Rattle.rbc_spec.specs.World.{new_world, world_run, world_step}
use Rattle.test_scenes.specs.Conditions.{cut_beyond_the_border, cut_with_a_pool, proposal_ends_with_the_mission}
use Rattle.test_scenes.specs.Conditions.{request_again_over_the_border, request_while_asked, yield_with_a_pool}
use Rattle.test_scenes.specs.Handover.{cancelled_before_taking_over, handover, return_after_handover}
use Rattle.test_scenes.specs.Handover.{yield_carries_the_last_stamp_heard}
use Rattle.test_scenes.specs.NotAllowed.{one_yield, two_yields}
use Rattle.test_scenes.specs.OnePlaces.{has_one_place, keeps_from, keeps_one_place}
use Rattle.test_scenes.specs.Races.{awaited, cleared_elsewhere, cleared_over_the_border, cleared_with_a_pool}
use Rattle.test_scenes.specs.Races.{end_of_mission_with_a_pool, first_of_the_pool_withdrawn, last_of_the_pool_withdrawn}
use Rattle.test_scenes.specs.Races.{route_after_the_yield, route_for_an_ended_mission}
use Rattle.test_scenes.specs.Races.{session_opens_over_a_waiting_start, whole_hand_is_cut, wish_at_the_yield}
use Rattle.test_scenes.specs.Races.{withdrawn_from_the_pool}
use Rattle.test_scenes.specs.Requests.{asks_again_each_round, early_frame, end_at_standstill}
use Rattle.test_scenes.specs.Requests.{end_at_standstill_with_a_wish, end_of_mission, no_integrity_frees_nothing}
use Rattle.test_scenes.specs.Requests.{report_clears, request_asks_over_the_border, request_extends_over_the_border}
use Rattle.test_scenes.specs.Scene.{line, line_of_three}
use Rattle.test_scenes.specs.Shortening.{another_answer_at_the_border, answer_to_another_proposal}
use Rattle.test_scenes.specs.Shortening.{asking_again_tries_again, granted_past_the_proposed_end}
use Rattle.test_scenes.specs.Shortening.{shortening_and_a_late_route, unset_in_a_hand}
use Rattle.test_scenes.specs.Starts.{ask_delivered_twice, hand_outlives_the_session, right_comes, right_goes_back}
use Rattle.test_scenes.specs.Starts.{right_is_refused, right_serves_a_later_start, start_after_the_end_of_mission}
use Rattle.test_scenes.specs.Starts.{unset_of_the_first_section}
use Rattle.test_scenes.specs.ThreeCentres.{border_of_the_first, each_home_gets_its_section_back}
use Rattle.test_scenes.specs.ThreeCentres.{ended_mission_is_yielded, second_takes_over, stands_still_before_the_third}
use Rattle.test_scenes.specs.ThreeCentres.{wish_at_a_third_centre, yield_with_a_third_home}

pub starts_keep : list_all (keeps_one_place line)
    (right_comes ∷ right_goes_back ∷ right_serves_a_later_start ∷ ask_delivered_twice ∷ right_is_refused
    ∷ hand_outlives_the_session ∷ start_after_the_end_of_mission ∷ unset_of_the_first_section ∷ []) ≡ true
unfolding within longest line_start end extent beginning ◌>>◌ step new_world world_step keeps_one_place keeps_from
starts_keep = refl

pub requests_keep : list_all (keeps_one_place line)
    (request_asks_over_the_border ∷ asks_again_each_round ∷ report_clears ∷ no_integrity_frees_nothing
    ∷ request_extends_over_the_border ∷ early_frame ∷ end_of_mission ∷ end_at_standstill ∷ end_at_standstill_with_a_wish
    ∷ []) ≡ true
unfolding within longest line_start end extent beginning ◌>>◌ step new_world world_step keeps_one_place keeps_from
requests_keep = refl

pub shortenings_keep : list_all (keeps_one_place line)
    (unset_in_a_hand ∷ shortening_and_a_late_route ∷ answer_to_another_proposal ∷ granted_past_the_proposed_end
    ∷ another_answer_at_the_border ∷ asking_again_tries_again ∷ []) ≡ true
unfolding within longest line_start end extent beginning ◌>>◌ step new_world world_step keeps_one_place keeps_from
shortenings_keep = refl

pub handovers_keep : list_all (keeps_one_place line)
    (handover ∷ return_after_handover ∷ yield_carries_the_last_stamp_heard ∷ cancelled_before_taking_over ∷ []) ≡ true
unfolding within longest line_start end extent beginning ◌>>◌ step new_world world_step keeps_one_place keeps_from
handovers_keep = refl

pub late_frames_keep : list_all (keeps_one_place line)
    (withdrawn_from_the_pool ∷ first_of_the_pool_withdrawn ∷ last_of_the_pool_withdrawn ∷ route_for_an_ended_mission
    ∷ end_of_mission_with_a_pool ∷ awaited ∷ route_after_the_yield ∷ wish_at_the_yield ∷ cleared_elsewhere
    ∷ cleared_with_a_pool ∷ cleared_over_the_border ∷ whole_hand_is_cut ∷ session_opens_over_a_waiting_start ∷ [])
    ≡ true
unfolding within longest line_start end extent beginning ◌>>◌ step new_world world_step keeps_one_place keeps_from
late_frames_keep = refl

pub conditions_keep : list_all (keeps_one_place line)
    (yield_with_a_pool ∷ cut_with_a_pool ∷ cut_beyond_the_border ∷ request_again_over_the_border ∷ request_while_asked
    ∷ proposal_ends_with_the_mission ∷ []) ≡ true
unfolding within longest line_start end extent beginning ◌>>◌ step new_world world_step keeps_one_place keeps_from
conditions_keep = refl

pub three_centres_keep : list_all (keeps_one_place (line_of_three 0))
    (border_of_the_first ∷ second_takes_over ∷ yield_with_a_third_home ∷ wish_at_a_third_centre
    ∷ each_home_gets_its_section_back ∷ ended_mission_is_yielded ∷ stands_still_before_the_third ∷ []) ≡ true
unfolding within longest line_start end extent beginning ◌>>◌ step new_world world_step keeps_one_place keeps_from
three_centres_keep = refl

pub one_yield_is : has_one_place line one_yield ≡ true
unfolding within longest line_start end extent beginning ◌>>◌ step new_world world_step world_run one_yield
one_yield_is = refl

pub two_yields_is : has_one_place line two_yields ≡ false
unfolding within longest line_start end extent beginning ◌>>◌ step new_world world_step world_run one_yield
two_yields_is = refl

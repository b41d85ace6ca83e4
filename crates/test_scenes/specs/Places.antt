-- The place of a train by its position packet, and packets that give no place.
use Rattle.std.specs.Prelude.{[], ◌++◌, ◌∷◌, false, List, map, None, Some, true, ℕ}
use Rattle.rbc_spec.specs.Message.{Authority, DataAcknowledged, Report, Request, StartOfMission, TrainAccepted}
use Rattle.rbc_spec.specs.Message.{TrainData, TrainRejected, unknown_group}
use Rattle.rbc_spec.specs.Outcome.{NoPlace, StaleStamp}
use Rattle.rbc_spec.specs.Place.{Position}
use Rattle.test_scenes.specs.Handover.{handed_over, handed_over_shows}
use Rattle.test_scenes.specs.Requests.{request_to_the_border, request_to_the_border_shows, start_and_request}
use Rattle.test_scenes.specs.Requests.{start_and_request_shows}
use Rattle.test_scenes.specs.Scene.{all_done, at, Given, group_1, in_section_1, IsOpen, IsShut, Item, Look, nothing}
use Rattle.test_scenes.specs.Scene.{Says, Scene, session, sets, shows, times, train}
use Rattle.test_scenes.specs.Starts.{opened, silent, start, start_shows}

-- ## No place

-- not nominal; not in level 2; with a distance or a doubt that is unknown; with a group that is not of the line
abbrev pub without_place : List Position
without_place =
    record in_section_1 { is_nominal = false } ∷ record in_section_1 { is_level_2 = false }
    ∷ record in_section_1 { d_lrbg = 32767 }
    ∷ record in_section_1 { l_doubtover = 32767 } ∷ record in_section_1 { l_doubtunder = 32767 } ∷ at 108 600 (Some 200)
    ∷ []

-- a report with each of these is silent, and one with a known distance is answered
abbrev pub reports_without_place : List Scene
reports_without_place =
    start
    ++ map (λ position. train 1 0 4 (Report position)) without_place
    ++ train 1 0 4 (Report (at 101 32766 (Some 200))) ∷ train 1 0 4 (Report in_section_1) ∷ []

abbrev pub reports_without_place_shows : List (List Item)
reports_without_place_shows = start_shows ++ times 6 (silent NoPlace) ++ nothing ∷ silent StaleStamp ∷ []

-- a request needs a place, and its front must not be past the hand
abbrev pub requests_without_place : List Scene
requests_without_place =
    start
    ++ train 1 0 4 (TrainData in_section_1) ∷ train 1 0 5 (Request (record in_section_1 { is_level_2 = false }))
    ∷ train 1 0 5 (Request (at 101 981 (Some 200))) ∷ train 1 0 5 (Request (at 101 980 (Some 200))) ∷ []

abbrev pub requests_without_place_show : List (List Item)
requests_without_place_show =
    start_shows
    ++ (Says 1 3 unknown_group (DataAcknowledged 4) ∷ []) ∷ silent NoPlace ∷ silent NoPlace
    ∷ (Says 1 4 group_1 (Authority 1000) ∷ []) ∷ []

-- the end of the hand is farther in advance of the group than message 3 can name
abbrev pub hand_out_of_reach : List Scene
hand_out_of_reach =
    sets 0 0 20 ++ start_and_request (at 102 600 (Some 200)) ++ train 1 0 6 (Request (at 100 4600 (Some 200))) ∷ []

abbrev pub hand_out_of_reach_shows : List (List Item)
hand_out_of_reach_shows = all_done 0 20 ++ start_and_request_shows 82022 32000 [] ++ silent NoPlace ∷ []

-- ## Starts that are not fit

-- not valid; without a rear; with the rear before the track; with the front past the track
abbrev pub starts_that_are_not_fit : List Scene
starts_that_are_not_fit =
    sets 0 0 8
    ++ session 1 0 1
    ++ train 1 0 3 (StartOfMission false in_section_1) ∷ train 1 0 4 (StartOfMission true (at 101 600 None))
    ∷ train 1 0 5 (StartOfMission true (at 100 209 (Some 200)))
    ∷ train 1 0 6 (StartOfMission true (at 107 981 (Some 200)))
    ∷ train 1 0 7 (StartOfMission true (at 107 980 (Some 200))) ∷ Look ∷ []

-- a start with the front at the end of the track is fit
abbrev pub starts_that_are_not_fit_show : List (List Item)
starts_that_are_not_fit_show =
    all_done 0 8
    ++ opened 1
    ++ (Says 1 2 unknown_group TrainRejected ∷ []) ∷ (Says 1 3 unknown_group TrainRejected ∷ [])
    ∷ (Says 1 4 unknown_group TrainRejected ∷ [])
    ∷ (Says 1 5 unknown_group TrainRejected ∷ []) ∷ (Says 1 6 unknown_group TrainAccepted ∷ [])
    ∷ shows (times 7 IsOpen ++ Given 1 ∷ []) [] ((0 ∷ []) ∷ [] ∷ []) ∷ []

-- a train over 33 sections, and one over 32 sections
abbrev pub longest_train : List Scene
longest_train =
    sets 0 0 40
    ++ session 1 0 1
    ++ train 1 0 3 (StartOfMission true (at 132 50 (Some 3200)))
    ∷ train 1 0 4 (StartOfMission true (at 131 50 (Some 3100))) ∷ Look ∷ []

abbrev pub longest_train_shows : List (List Item)
longest_train_shows =
    all_done 0 40
    ++ opened 1
    ++ (Says 1 2 unknown_group TrainRejected ∷ []) ∷ (Says 1 3 unknown_group TrainAccepted ∷ [])
    ∷ shows (times 32 (Given 1) ++ times 8 IsOpen) [] ((0 ∷ []) ∷ [] ∷ []) ∷ []

-- ## Scales

-- in decimetres, but the train's length is still in metres
abbrev pub in_decimetres : ℕ → Position
in_decimetres d_lrbg = record (at 102 d_lrbg (Some 200)) { scale = 1; l_doubtover = 100; l_doubtunder = 200 }

-- the rear is 10 cm before the end of section 1, and then at the end
abbrev pub other_scale : List Scene
other_scale =
    request_to_the_border ++ train 1 0 6 (Report (in_decimetres 2099)) ∷ Look
    ∷ train 1 0 7 (Report (in_decimetres 2100)) ∷ Look ∷ []

abbrev pub other_scale_shows : List (List Item)
other_scale_shows =
    request_to_the_border_shows
    ++ nothing ∷ shows (IsShut ∷ times 3 (Given 1) ++ times 4 IsShut) [] ((0 ∷ []) ∷ [] ∷ [])
    ∷ nothing ∷ shows (IsShut ∷ IsOpen ∷ times 2 (Given 1) ++ times 4 IsShut) [] ((0 ∷ []) ∷ [] ∷ []) ∷ []

-- ## Stamps

-- a centre that takes a train over with an older stamp keeps its own
abbrev pub own_stamp_after_a_yield : List Scene
own_stamp_after_a_yield = handed_over 7 ++ train 1 1 9 (Report (at 104 300 (Some 200))) ∷ []

abbrev pub own_stamp_after_a_yield_shows : List (List Item)
own_stamp_after_a_yield_shows = handed_over_shows ++ silent StaleStamp ∷ []

-- Scenes of places as moves of the one line centre.
use Rattle.std.specs.Prelude.{List, [], ◌∷◌, ◌++◌, Some, false}
use Rattle.rbc_spec.specs.Message.{TrainData, Request}
use Rattle.test_scenes.specs.Moves.{Move}
use Rattle.test_scenes.specs.Scene.{train, sets, at, in_section_1}
use Rattle.test_scenes.specs.Starts.{start}
use Rattle.test_scenes.specs.SceneMoves.{plain, extends, first_authority, to_the_border_moves, handed_over_moves}
use Rattle.rbc_spec.specs.Message.{Report}
use Rattle.test_scenes.specs.Places.{in_decimetres}

abbrev pub requests_without_place_moves : List Move
requests_without_place_moves =
    plain (start
    ++ train 1 0 4 (TrainData in_section_1) ∷ train 1 0 5 (Request (record in_section_1 { is_level_2 = false }))
    ∷ train 1 0 5 (Request (at 101 981 (Some 200))) ∷ [])
    ++ extends 0 (train 1 0 5 (Request (at 101 980 (Some 200)))) []

abbrev pub hand_out_of_reach_moves : List Move
hand_out_of_reach_moves =
    plain (sets 0 0 20) ++ first_authority (at 102 600 (Some 200)) 15
    ++ plain (train 1 0 6 (Request (at 100 4600 (Some 200))) ∷ [])

abbrev pub other_scale_moves : List Move
other_scale_moves =
    to_the_border_moves ++ plain
    (train 1 0 6 (Report (in_decimetres 2099)) ∷ train 1 0 7 (Report (in_decimetres 2100)) ∷ [])

abbrev pub own_stamp_after_a_yield_moves : List Move
own_stamp_after_a_yield_moves = handed_over_moves 7 ++ plain (train 1 1 9 (Report (at 104 300 (Some 200))) ∷ [])

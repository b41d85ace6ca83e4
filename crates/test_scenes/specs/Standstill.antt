-- The end of a mission at standstill, with the front just at the start of a section. The sections in rear of the front
-- are cleared. No section of the rest of the hand starts before the front, so the train has not reached that rest.
use Rattle.std.specs.Prelude.{ℕ, List, [], ◌∷◌, ◌++◌, Some, Ok}
use Rattle.std.specs.List.{filter_map}
use Rattle.rbc_spec.specs.Frame.{Cancel, RouteReturn}
use Rattle.rbc_spec.specs.Message.{EndOfMission, TrainMessage}
use Rattle.rbc_spec.specs.Place.{Position}
use Rattle.rbc_spec.specs.World.{World, Event, Bytes, new_world, world_run}
use Rattle.test_scenes.specs.Scene.{Scene, Happens, Look, Item, Sends, Given, IsOpen, IsShut, Kept, line, at, nothing}
use Rattle.test_scenes.specs.Scene.{shows, times}
use Rattle.test_scenes.specs.Requests.{over_the_border, over_the_border_shows, shows_section_2}
use Rattle.test_scenes.specs.Moves.{Move}
use Rattle.test_scenes.specs.Pieces.{event_of}
use Rattle.test_scenes.specs.SceneMoves.{over_the_border_moves, plain}
use Rattle.test_scenes.specs.StrayFrames.{world_in}

-- in section 2, this number of metres from its start. The train has length 0 and doubts of 0, so the front and the
-- rear are one point.
abbrev pub in_section_2 : (d_lrbg : ℕ) → Position
in_section_2 d_lrbg = record (at 102 d_lrbg (Some 0)) { l_doubtover = 0; l_doubtunder = 0 }

-- the world in which sections 1 to 6 are in the hand of train 1, at A
unfoldable pub six_given : World
six_given = world_in (new_world line) (world_run line (new_world line) (filter_map event_of over_the_border))

-- the train ends its mission at standstill
abbrev pub end_message : Position → TrainMessage
end_message position = record { t_train = 7; nid_engine = 1; body = EndOfMission position }

abbrev pub ends_at : Position → Event
ends_at position = Bytes 0 (Ok (end_message position))

-- at the start of section 2: section 1 is open, and sections 2 to 6 stay in the hand
abbrev pub end_at_the_start : List Scene
end_at_the_start = over_the_border ++ Happens (ends_at (in_section_2 0)) ∷ Look ∷ []

abbrev pub end_at_the_start_shows : List (List Item)
end_at_the_start_shows =
    over_the_border_shows
    ++ nothing ∷ shows (IsShut ∷ IsOpen ∷ times 5 (Given 1) ++ IsShut ∷ []) [] ((0 ∷ []) ∷ [] ∷ []) ∷ []

abbrev pub end_at_the_start_moves : List Move
end_at_the_start_moves = over_the_border_moves ++ plain (Happens (ends_at (in_section_2 0)) ∷ [])

-- one metre in advance of that: section 2 stays in the hand, and sections 3 to 6 leave it
abbrev pub end_past_the_start : List Scene
end_past_the_start = over_the_border ++ Happens (ends_at (in_section_2 1)) ∷ Look ∷ []

abbrev pub end_past_the_start_shows : List (List Item)
end_past_the_start_shows =
    over_the_border_shows
    ++ (Sends 1 4 (RouteReturn 1 (record { first = 4; count = 3 })) ∷ Sends 1 5 (Cancel 1 1) ∷ [])
    ∷ shows_section_2 (times 3 (Kept 1)) [] ∷ []

abbrev pub end_past_the_start_moves : List Move
end_past_the_start_moves = over_the_border_moves ++ plain (Happens (ends_at (in_section_2 1)) ∷ [])

-- Moves that the rules of the one line centre do not allow, each beside one that they allow; and a world that no state
-- represents.
use Rattle.std.specs.Prelude.{ℕ, ◌==◌, List, [], ◌∷◌, ◌++◌, map, length, if◌then◌else◌, Option, Some, None}
use Rattle.std.specs.List.{filter_map}
use Rattle.rbc_spec.specs.Maps.{put}
use Rattle.rbc_spec.specs.Message.{TerminationOfSession, Report}
use Rattle.rbc_spec.specs.Outcome.{Reason, NoSession, Word, Done, Asked, Told}
use Rattle.rbc_spec.specs.LineCentre.{line_beginning}
use Rattle.rbc_spec.specs.Quiet.{Keep, Unkeep}
use Rattle.rbc_spec.specs.World.{World, Set, Unset, Delivery, new_world, world_run}
use Rattle.rbc_spec.specs.ReadOff.{all_held}
use Rattle.test_scenes.specs.Scene.{Happens, line, train, session, at}
use Rattle.test_scenes.specs.Moves.{Move, Shown, Speaks}
use Rattle.test_scenes.specs.Pieces.{event_of, Seen, Shows, line_shows}
use Rattle.test_scenes.specs.SceneMoves.{plain, followed}
use Rattle.test_scenes.specs.Handover.{announced, the_yield}
use Rattle.test_scenes.specs.StrayFrames.{world_in}

-- ## Moves

-- the content that is shown, or `None` if the move is not allowed
abbrev pub shown_in : Seen → Option Shown
shown_in (Shows shown sheet) = Some shown
shown_in other = None

-- the content shown at each move from the initial state on
abbrev pub shown_at : List Move → List (Option Shown)
shown_at moves = map shown_in (line_shows line line_beginning moves)

-- only replies to the interlocking, or the reason of silence
abbrev pub tells : List Word → Option Shown
tells words = Some (Speaks (record { said = record { sayings = []; words = words }; silence = None }))

abbrev pub is_silent_for : Reason → Option Shown
is_silent_for why = Some (Speaks (record { said = record { sayings = []; words = [] }; silence = Some why }))

-- section 4 of home B is kept after an event at B
abbrev pub kept_at_home : List Move
kept_at_home = plain (Happens (Set 1 4) ∷ []) ++ followed (Happens (Set 1 5)) (Keep 1 4 ∷ [])

abbrev pub kept_at_home_shows : List (Option Shown)
kept_at_home_shows = tells (Done 4 ∷ []) ∷ tells (Done 5 ∷ []) ∷ []

-- it is not kept after an event at A
abbrev pub kept_elsewhere : List Move
kept_elsewhere = plain (Happens (Set 1 4) ∷ []) ++ followed (Happens (Set 0 0)) (Keep 1 4 ∷ [])

abbrev pub kept_elsewhere_shows : List (Option Shown)
kept_elsewhere_shows = tells (Done 4 ∷ []) ∷ None ∷ []

-- a silent message is a whole piece
abbrev pub silent_alone : List Move
silent_alone = plain (Happens (Set 0 0) ∷ train 1 0 1 TerminationOfSession ∷ [])

abbrev pub silent_alone_shows : List (Option Shown)
silent_alone_shows = tells (Done 0 ∷ []) ∷ is_silent_for NoSession ∷ []

-- no section is kept after a silent message
abbrev pub kept_after_silence : List Move
kept_after_silence = plain (Happens (Set 0 0) ∷ []) ++ followed (train 1 0 1 TerminationOfSession) (Keep 1 0 ∷ [])

abbrev pub kept_after_silence_shows : List (Option Shown)
kept_after_silence_shows = tells (Done 0 ∷ []) ∷ None ∷ []

-- sections 4 and 5 are kept for train 1, and section 4 is wished back
abbrev pub two_kept : List Move
two_kept =
    plain (Happens (Set 1 4) ∷ []) ++ followed (Happens (Set 1 5)) (Keep 1 4 ∷ Keep 1 5 ∷ [])
    ++ plain (Happens (Unset 1 4) ∷ [])

abbrev pub two_kept_shows : List (Option Shown)
two_kept_shows = tells (Done 4 ∷ []) ∷ tells (Done 5 ∷ []) ∷ tells (Asked 4 ∷ []) ∷ []

-- section 5 is wished back too, and both are freed, with the replies `Told` in the order of sections
abbrev pub told_in_order : List Move
told_in_order = two_kept ++ followed (Happens (Unset 1 5)) (Unkeep 1 4 ∷ Unkeep 1 5 ∷ [])

abbrev pub told_in_order_shows : List (Option Shown)
told_in_order_shows = two_kept_shows ++ tells (Asked 5 ∷ Told 4 ∷ Told 5 ∷ []) ∷ []

-- replies in the other order are not allowed
abbrev pub told_out_of_order : List Move
told_out_of_order = two_kept ++ followed (Happens (Unset 1 5)) (Unkeep 1 5 ∷ Unkeep 1 4 ∷ [])

abbrev pub told_out_of_order_shows : List (Option Shown)
told_out_of_order_shows = two_kept_shows ++ None ∷ []

-- ## Two Yields of one train

-- A has handed train 1 over, and its Yield is on the way to B
unfoldable pub one_yield : World
one_yield = world_in (new_world line) (world_run line (new_world line) (filter_map event_of
    (announced ++ session 1 1 7
    ++ train 1 1 9 (Report (at 104 100 (Some 200))) ∷ Happens (Delivery 1 0 2) ∷ Happens (Delivery 1 0 3) ∷ [])))

-- the same Yield is on the way a second time, under the next number
abbrev pub two_yields : World
two_yields = record one_yield {
  at = put one_yield.at 0 (record (one_yield.at 0) {
    sent = λ d. if d == 1 then (one_yield.at 0).sent 1 ++ record { number = 5; stamp = 18; body = the_yield } ∷ []
        else (one_yield.at 0).sent d;
  });
}

-- the count of train 1's missions, at centres and on the way
abbrev pub missions_in : World → ℕ
missions_in w = length (all_held line w 1)

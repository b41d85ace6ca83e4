-- A move of the one line centre: an event, a choice if the rules leave one, and the quiet steps after it. The result of
-- a move is computed. One proof shows that it is a piece of the line centre.
use Rattle.std.specs.List.{list_all}
use Rattle.std.specs.Option.{option_map_or}
use Rattle.std.specs.Prelude.{[], ◌&&◌, ◌||◌, ◌∷◌, Bool, Err, false, if◌then◌else◌, is_none, List, nat_lt, None, not}
use Rattle.std.specs.Prelude.{Ok, Option, Some, true, ℕ}
use Rattle.rbc_spec.specs.Line.{is_centre, Line}
use Rattle.rbc_spec.specs.LineCentre.{LineState, Said}
use Rattle.rbc_spec.specs.Outcome.{Outcome, Reason, Told, Word}
use Rattle.rbc_spec.specs.Quiet.{both, is_of_centre, Quiet}
use Rattle.rbc_spec.specs.World.{Bytes, centre_of, Delivery, Event, Set, Unset}
use Rattle.test_scenes.specs.Turns.{allowed, Choice, own_step, quiet_turns, Step, Turn, Unanswered}

-- an event, the choice, and the quiet steps after it
pub record Move : Type 0 where
  pub event : Event
  pub choice : Choice
  pub quiets : List Quiet

-- the messages and replies, or the reason of silence
pub record Spoken : Type 0 where
  pub said : Said
  pub silence : Option Reason

abbrev pub spoken_in : Outcome → Spoken
spoken_in o = record { said = record { sayings = o.sayings; words = o.words }; silence = o.silence }

-- the content of an answer without its stamp and its frames, or the reason why nothing was answered
pub data Shown : Type 0 where
  Speaks : (spoken : Spoken) → Shown
  Nowhere : Shown
  NeverSent : Shown
  BadBytes : (number : ℕ) → Shown

-- the result of a move
pub record Played : Type 0 where
  pub shown : Shown
  pub state : LineState

abbrev pub played : Step → Turn → Played
played own later =
    record { shown = Speaks (record { said = both own.turn.said later.said; silence = own.why }); state = later.state }

-- the section has a lower number than that of a reply `Told`
abbrev pub is_below : ℕ → Word → Bool
is_below s (Told e) = nat_lt s e
is_below s word = true

-- the replies `Told` are in the order of their sections
abbrev pub tells_in_order : List Word → Bool
tells_in_order [] = true
tells_in_order (Told s ∷ words) = list_all (is_below s) words && tells_in_order words
tells_in_order (word ∷ words) = tells_in_order words

abbrev pub are_none : List Quiet → Bool
are_none [] = true
are_none (q ∷ qs) = false

-- The quiet steps are of the event's centre, none follows a silent message, and the replies `Told` are in the order of
-- sections.
abbrev pub is_piece : Line → Event → Step → List Quiet → Turn → Bool
is_piece line event own quiets later =
    list_all (is_of_centre line (centre_of event)) quiets
    && ((is_none own.why || are_none quiets) && tells_in_order (both own.turn.said later.said).words)

-- the answer to an event without a piece
abbrev pub without_piece : Line → Event → Option Shown
without_piece line (Bytes c (Ok m)) = allowed (not (is_centre line c)) Nowhere
without_piece line (Bytes c (Err number)) = if is_centre line c then Some (BadBytes number) else Some Nowhere
without_piece line (Set c s) = allowed (not (is_centre line c)) Nowhere
without_piece line (Unset c s) = allowed (not (is_centre line c)) Nowhere
without_piece line (Delivery from to number) = Some NeverSent

abbrev pub play_by : Line → LineState → Event → Choice → List Quiet → Option Played
play_by line v event Unanswered quiets =
    option_map_or (λ shown. Some (record { shown = shown; state = v })) (without_piece line event) None
play_by line v event choice quiets = option_map_or
    (λ own. option_map_or (λ later. allowed (is_piece line event own quiets later) (played own later))
    (quiet_turns line own.turn.state quiets) None)
    (own_step line v event choice) None

unfoldable pub play : Line → LineState → Move → Option Played
play line v move = play_by line v move.event move.choice move.quiets

-- Moves that leave the one line centre no choice. The moves of a one-centre line are such moves.
use Rattle.std.specs.Prelude.{ℕ, ◌+◌, ◌*◌, ◌==◌, Bool, true, false, ◌&&◌, not, List, [], ◌∷◌, Option, is_none, nat_le}
use Rattle.std.specs.Option.{option_map_or}
use Rattle.rbc_spec.specs.Line.{Line, start}
use Rattle.rbc_spec.specs.Place.{group_start}
use Rattle.rbc_spec.specs.Centre.{is_up}
use Rattle.rbc_spec.specs.LineCentre.{LineState, Mark, Given, LineMission, is_at}
use Rattle.rbc_spec.specs.Quiet.{Quiet, Propose}
use Rattle.rbc_spec.specs.World.{Event, Unset}
use Rattle.test_scenes.specs.Turns.{Choice, Plainly, Extending, own_step}
use Rattle.test_scenes.specs.Moves.{Move, Played, play}

-- centre c can not ask the train to shorten its authority before section s, whatever its hand
abbrev pub is_barred : Line → LineState → (t c s : ℕ) → LineMission → Bool
is_barred line v t c s m =
    not (((is_at c m.supervisor && is_up (v.phase t c)) && (not m.is_ended && is_none m.proposal))
    && (nat_le m.place.front (10 * start line s) && nat_le (start line s) (group_start line m.place + 32767)))

-- no train can be asked to give up a section of this mark
abbrev pub is_unasked : Line → LineState → (c s : ℕ) → Mark → Bool
is_unasked line v c s (Given t) = option_map_or (is_barred line v t c s) (v.mission t) true
is_unasked line v c s mark = true

-- The quiet steps are forced. After an unset the quiet step is message 9 for the section, or there is none if no train
-- can be asked. After any other event no quiet step follows.
abbrev pub is_forced : Line → LineState → Event → List Quiet → Bool
is_forced line mid (Unset c s) [] = is_unasked line mid c s (mid.mark s)
is_forced line mid (Unset c s) (Propose t d e ∷ []) = (d == c) && (e == s)
is_forced line mid (Unset c s) quiets = false
is_forced line mid event [] = true
is_forced line mid event quiets = false

-- the event has a piece; no start is rejected by choice, and no report is listened to by choice
abbrev pub is_plain : Choice → Bool
is_plain Plainly = true
is_plain (Extending count) = true
is_plain other = false

-- the state after the own step of a move
abbrev pub own_state : Line → LineState → Move → LineState
own_state line v move = option_map_or (λ own. own.turn.state) (own_step line v move.event move.choice) v

abbrev pub leaves_no_choice : Line → LineState → Move → Bool
leaves_no_choice line v move = is_plain move.choice && is_forced line (own_state line v move) move.event move.quiets

abbrev pub played_on : LineState → Option Played → LineState
played_on v p = option_map_or (λ x. x.state) p v

unfoldable pub leave_no_choice : Line → LineState → List Move → Bool
leave_no_choice line v [] = true
leave_no_choice line v (move ∷ moves) =
    leaves_no_choice line v move && leave_no_choice line (played_on v (play line v move)) moves

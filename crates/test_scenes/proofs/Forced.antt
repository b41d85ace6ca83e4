-- Moves that leave no choice form a forced run.
use Rattle.std.proofs.Common.{[], ◌&&◌, ◌*◌, ◌+◌, ◌==◌, ◌∙◌, ◌∷◌, ◌≡◌, ap, eq-eqb, Err, false, is_none, List, None, not}
use Rattle.std.proofs.Common.{Ok, Option, refl, Result, Some, subst, subst₂, sym, true, true≢false, ℕ}
use Rattle.std.proofs.lemmas.Bool.{and_from, and_parts, cond-false, cond-true, eqb-true, le-leb, not_from_true}
use Rattle.std.proofs.lemmas.Option.{none-some, same_Some}
use Rattle.std.specs.List.{filter_map}
use Rattle.std.specs.Option.{option_map_or}
use Rattle.rbc_spec.specs.Centre.{is_registrar_of, is_up}
use Rattle.rbc_spec.specs.Line.{is_centre, Line, start}
use Rattle.rbc_spec.specs.LineCentre.{Given, hears, is_at, is_given_to, Kept, line_beginning, LineState, Mark, Open}
use Rattle.rbc_spec.specs.LineCentre.{Said, Shut, supervises}
use Rattle.rbc_spec.specs.Message.{StartOfMission, TrainBody, TrainMessage}
use Rattle.rbc_spec.specs.Outcome.{Reason}
use Rattle.rbc_spec.specs.OwnSteps.{Accepts, begins, may_start}
use Rattle.rbc_spec.specs.Place.{group_start, Place}
use Rattle.rbc_spec.specs.Quiet.{Propose, Proposes, Quiet, TakesAll}
use Rattle.rbc_spec.specs.ReadOff.{read_off}
use Rattle.rbc_spec.specs.Run.{silence}
use Rattle.rbc_spec.specs.Step.{Refusal}
use Rattle.rbc_spec.specs.Theorems.{Asks, ForcedMessageStep, ForcedOwnStep, ForcedQuietSteps, ForcedRun, GoesForced}
use Rattle.rbc_spec.specs.Theorems.{IsOneCentreLine, IsStartAccepted, MayPropose}
use Rattle.rbc_spec.specs.World.{Answer, Bytes, Delivery, Event, new_world, Set, Unset, World, world_run, world_step}
use Rattle.test_scenes.proofs.Bounds.{IsWithinLine}
use Rattle.test_scenes.proofs.OwnTurns.{IsStep, own_step_is}
use Rattle.test_scenes.proofs.Pieces.{after_first, answers_of, answers_with, at_speaking, beginning_within, is_allowed}
use Rattle.test_scenes.proofs.Pieces.{is_shown, met, piece_with, shown_first, state_after, state_with, world_after}
use Rattle.test_scenes.proofs.QuietTurns.{AreQuiet, quiets_are}
use Rattle.test_scenes.proofs.Valid.{Valid, valid_allowed, valid_some, valid_then, valid_when}
use Rattle.test_scenes.specs.Forced.{is_barred, is_forced, is_plain, is_unasked, leave_no_choice, leaves_no_choice}
use Rattle.test_scenes.specs.Forced.{played_on}
use Rattle.test_scenes.specs.Moves.{is_piece, Move, play, play_by, Played, played, Shown, Spoken}
use Rattle.test_scenes.specs.Pieces.{centres_show, event_of, events_of, IsMetByForcedRun, line_shows, seen_after}
use Rattle.test_scenes.specs.Pieces.{seen_of_line, sheet, shown_by}
use Rattle.test_scenes.specs.Scene.{Scene}
use Rattle.test_scenes.specs.Turns.{accepting, allowed, Choice, Extending, Listening, message_step, own_step, own_turn}
use Rattle.test_scenes.specs.Turns.{Plainly, quiet_turns, Rejecting, rejecting, restart, set_turn, start_at, start_here}
use Rattle.test_scenes.specs.Turns.{start_new, Step, Turn, Unanswered, unset_turn}

-- ## Own steps

-- a start at the registrar that meets the conditions is accepted
accepts_by : (line : Line) (t c : ℕ) (v : LineState) (place : Place) (choice : Choice) (o : Option Place)
    → o ≡ Some place
    → may_start line v c place ≡ true → is_registrar_of line c t ≡ true → v.mission t ≡ None
    → start_here line t c place v choice ≡ allowed (is_none (v.mission t)) (accepting t c v (begins line t c place v))
    → start_at line t c o v choice ≡ Some (accepting t c v (begins line t c place v))
accepts_by line t c v place choice o fit may registrar none here =
    ap (λ p. start_at line t c p v choice) fit
    ∙ (cond-false (supervises v c t) (restart line t c place v) (start_new line t c place v choice)
    (ap (λ m. option_map_or (λ n. is_at c n.supervisor) m false) none)
    ∙ (cond-true (may_start line v c place) _ (Some (rejecting t c v)) may
    ∙ (cond-true (is_registrar_of line c t) (start_here line t c place v choice) _ registrar
    ∙ (here ∙ cond-true (is_none (v.mission t)) (Some (accepting t c v (begins line t c place v))) None
    (ap is_none none)))))

accepts : (line : Line) (t c : ℕ) (v : LineState) (place : Place) (choice : Choice) (o : Option Place)
    → is_plain choice ≡ true → o ≡ Some place
    → may_start line v c place ≡ true → is_registrar_of line c t ≡ true → v.mission t ≡ None
    → start_at line t c o v choice ≡ Some (accepting t c v (begins line t c place v))
accepts line t c v place Rejecting o plain fit may registrar none = absurd (true≢false (sym plain))
accepts line t c v place Listening o plain fit may registrar none = absurd (true≢false (sym plain))
accepts line t c v place Plainly o plain fit may registrar none =
    accepts_by line t c v place Plainly o fit may registrar none refl
accepts line t c v place Unanswered o plain fit may registrar none = absurd (true≢false (sym plain))
accepts line t c v place (Extending count) o plain fit may registrar none =
    accepts_by line t c v place (Extending count) o fit may registrar none refl

start_accepted : (line : Line) (c : ℕ) (m : TrainMessage) (body : TrainBody) (v : LineState) (choice : Choice)
    (turn : Turn) → is_plain choice ≡ true
    → own_turn line c m body v choice ≡ Some turn → IsStartAccepted line v c m body turn.said turn.state
start_accepted line c m (StartOfMission is_valid position) v choice turn plain own = λ place fit may registrar none.
    subst (λ (x : Turn). Accepts m.nid_engine c v (begins line m.nid_engine c place v) x.said x.state)
    (same_Some (accepting m.nid_engine c v (begins line m.nid_engine c place v)) turn
    (sym (accepts line m.nid_engine c v place choice _ plain fit may registrar none) ∙ own))
    (record { said_is = refl; new_is = refl })
start_accepted line c m body v choice turn plain own = tt

abbrev IsForcedStep : Line → LineState → ℕ → TrainMessage → Step → Type 0
IsForcedStep line v c m step = ForcedMessageStep line v c m step.turn.said step.turn.state step.why

message_forced : (line : Line) (c : ℕ) (m : TrainMessage) (v : LineState) (choice : Choice) (why : Option Reason)
    → is_plain choice ≡ true
    → silence line v c m ≡ why → Valid (IsForcedStep line v c m) (message_step line c m v choice why)
message_forced line c m v Listening why plain is = absurd (true≢false (sym plain))
message_forced line c m v choice (Some reason) plain is =
    record { silent = sym is; starts = λ none. absurd (none-some reason (sym none)) }
message_forced line c m v choice None plain is =
    valid_some (IsForcedStep line v c m) _ (own_turn line c m m.body (hears c m v) choice) (λ turn own.
    record { silent = sym is; starts = λ _. start_accepted line c m m.body (hears c m v) choice turn plain own })

OwnForced : Line → LineState → Event → Step → Type 0
OwnForced line v event step = ForcedOwnStep line v event step.turn.said step.turn.state step.why

own_forced : (line : Line) (v : LineState) (event : Event) (choice : Choice) → is_plain choice ≡ true
    → Valid (OwnForced line v event) (own_step line v event choice)
unfolding OwnForced
own_forced line v (Bytes c (Ok m)) choice plain = valid_when (OwnForced line v (Bytes c (Ok m))) (is_centre line c) _
    (λ _. message_forced line c m v choice (silence line v c m) plain refl)
own_forced line v (Bytes c (Err number)) choice plain = tt
own_forced line v (Set c s) choice plain = valid_when (OwnForced line v (Set c s)) (is_centre line c) _ (λ _.
    valid_some (OwnForced line v (Set c s)) _ (set_turn line c s v) (λ turn _. tt))
own_forced line v (Unset c s) choice plain = valid_when (OwnForced line v (Unset c s)) (is_centre line c) _ (λ _.
    valid_some (OwnForced line v (Unset c s)) _ (unset_turn line c s v) (λ turn _. tt))
own_forced line v (Delivery from to number) choice plain = tt

-- ## Quiet steps

-- a train that is asked to shorten may be asked
not_barred : (line : Line) (v : LineState) (t c s : ℕ) (said : Said) (new : LineState)
    (p : Proposes line v t c s said new) → is_barred line v t c s p.mission ≡ false
not_barred line v t c s said new p = not_from_true _ (and_from _ _
    (and_from _ _ (and_from _ _ (ap (is_at c) p.supervises ∙ eq-eqb c c refl) (ap is_up p.is_up))
    (and_from _ _ (ap not p.goes_on) (ap is_none p.none_stands)))
    (and_from _ _ (le-leb p.mission.place.front (10 * start line s) p.not_past)
    (le-leb (start line s) (group_start line p.mission.place + 32767) p.within_reach)))

unasked_is : (line : Line) (v : LineState) (t c s : ℕ) (mark : Mark) (said : Said) (new : LineState)
    → is_unasked line v c s mark ≡ true → is_given_to t mark ≡ true
    → Proposes line v t c s said new → ⊥
unasked_is line v t c s Shut said new so given p = true≢false (sym given)
unasked_is line v t c s Open said new so given p = true≢false (sym given)
unasked_is line v t c s (Kept u) said new so given p = true≢false (sym given)
unasked_is line v t c s (Given u) said new so given p =
    let here = subst (λ x. option_map_or (is_barred line v x c s) (v.mission x) true ≡ true) (eqb-true u t given) so in
    true≢false
    (sym here ∙ (ap (λ o. option_map_or (is_barred line v t c s) o true) p.of_train
    ∙ not_barred line v t c s said new p))

follows : (line : Line) (mid : LineState) (event : Event) (quiets : List Quiet) (later : Said) (new : LineState)
    → TakesAll line mid quiets later new → is_forced line mid event quiets ≡ true
    → ForcedQuietSteps line mid event quiets
follows line mid (Unset c s) [] later new takes so =
    Asks.not_asked (λ t may. unasked_is line mid t c s (mid.mark s) may.0 may.1 so
    (may.2.is_hand.each s ∙ may.2.in_hand) may.2)
follows line mid (Unset c s) (Propose t d e ∷ []) later new takes so =
    let parts = and_parts (d == c) (e == s) so in
    let may : MayPropose line mid t d e = (takes.0, takes.2, takes.3) in
    subst₂ (λ x y. Asks line mid c s (Propose t x y ∷ [])) (sym (eqb-true d c parts.0)) (sym (eqb-true e s parts.1))
    (Asks.asked t (subst₂ (λ x y. MayPropose line mid t x y) (eqb-true d c parts.0) (eqb-true e s parts.1) may))
follows line mid (Unset c s) quiets later new takes so = absurd (true≢false (sym so))
follows line mid event [] later new takes so = refl
follows line mid event (q ∷ qs) later new takes so = absurd (true≢false (sym so))

-- ## Moves

-- the line centre meets each answer that shows this, in this state, without choice
abbrev MeetsForced : Line → LineState → Event → LineState → Shown → Type 0
MeetsForced line v event new shown = (answer : Answer) → shown_by answer ≡ shown → GoesForced line v event answer new

record IsForcedPiece (line : Line) (v : LineState) (event : Event) (p : Played) : Type 0 where
  meets : MeetsForced line v event p.state p.shown
  bound : IsWithinLine line p.state.mark

-- a property of the value, if there is one, holds for this value
valid_at : {X : Type 0} (P : X → Type 0) (o : Option X) (x : X) → Valid P o → o ≡ Some x → P x
valid_at P o x so is = subst (Valid P) is so

piece_forced : (line : Line) (v : LineState) (event : Event) (choice : Choice) (quiets : List Quiet)
    → IsWithinLine line v.mark → is_plain choice ≡ true
    → is_forced line (option_map_or (λ own. own.turn.state) (own_step line v event choice) v) event quiets ≡ true
    → Valid (IsForcedPiece line v event) (option_map_or
    (λ own. option_map_or (λ later. allowed (is_piece line event own quiets later) (played own later))
    (quiet_turns line own.turn.state quiets) None) (own_step line v event choice) None)
unfolding OwnForced
piece_forced line v event choice quiets bound plain only =
    valid_some (IsForcedPiece line v event) _ (own_step line v event choice) (λ own own_is.
    let first = valid_at (IsStep line v event) (own_step line v event choice) own
    (own_step_is line v event choice bound) own_is in
    let forced = valid_at (OwnForced line v event) (own_step line v event choice) own
    (own_forced line v event choice plain) own_is in
    let here =
    sym (ap (λ o. is_forced line (option_map_or (λ (x : Step). x.turn.state) o v) event quiets) own_is) ∙ only in
    valid_then (AreQuiet line own.turn.state quiets) (IsForcedPiece line v event) _
    (quiet_turns line own.turn.state quiets)
    (quiets_are line own.turn.state quiets first.1) (λ later others.
    valid_allowed (IsForcedPiece line v event) (is_piece line event own quiets later) (played own later) (λ so. record {
      meets = at_speaking (λ answer. GoesForced line v event answer later.state) _ (λ outcome says. record {
        piece = piece_with line v event own quiets later outcome first.0 others.0 says so;
        own_step =
            subst (ForcedOwnStep line v event own.turn.said own.turn.state)
            (sym (ap (λ (x : Spoken). x.silence) says)) forced;
        quiet_steps = follows line own.turn.state event quiets later.said later.state others.0 here;
      });
      bound = others.1;
    })))

play_forced : (line : Line) (v : LineState) (event : Event) (choice : Choice) (quiets : List Quiet)
    → IsWithinLine line v.mark
    → (is_plain choice && is_forced line (option_map_or (λ own. own.turn.state) (own_step line v event choice) v) event
    quiets) ≡ true
    → Valid (IsForcedPiece line v event) (play_by line v event choice quiets)
play_forced line v event Plainly quiets bound so = piece_forced line v event Plainly quiets bound refl so
play_forced line v event (Extending count) quiets bound so =
    piece_forced line v event (Extending count) quiets bound refl so
play_forced line v event Rejecting quiets bound so = absurd (true≢false (sym so))
play_forced line v event Listening quiets bound so = absurd (true≢false (sym so))
play_forced line v event Unanswered quiets bound so = absurd (true≢false (sym so))

-- ## The whole run

forced_with : (line : Line) (v : LineState) (move : Move) (moves : List Move) (result : Result (Answer × World) Refusal)
    → (p : Option Played) → Valid (IsForcedPiece line v move.event) p
    → leave_no_choice line (played_on v p) moves ≡ true
    → ((after : World) (new : LineState) → IsWithinLine line new.mark
    → centres_show line after moves ≡ line_shows line new moves
    → leave_no_choice line new moves ≡ true
    → ForcedRun line new (events_of moves) (answers_of line after moves) (state_after line new moves))
    → seen_after line result (λ after. centres_show line after moves)
    ≡ seen_of_line line p (λ new. line_shows line new moves)
    → ForcedRun line v (events_of (move ∷ moves)) (answers_with result (λ after. answers_of line after moves))
    (state_with v p (λ new. state_after line new moves))
forced_with line v move moves (Ok (answer, after)) (Some p) piece rest others same = (
  p.state,
  piece.meets answer (ap (shown_first p.shown) same),
  others after p.state piece.bound (ap after_first same) rest,
)
forced_with line v move moves (Ok (answer, after)) None piece rest others same = absurd (true≢false (ap is_shown same))
forced_with line v move moves (Err why) (Some p) piece rest others same = absurd (true≢false (sym (ap is_shown same)))
forced_with line v move moves (Err why) None piece rest others same = absurd (true≢false (ap is_allowed same))

runs_forced : (line : Line) (moves : List Move) (w : World) (v : LineState) → IsWithinLine line v.mark
    → centres_show line w moves ≡ line_shows line v moves → leave_no_choice line v moves ≡ true
    → ForcedRun line v (events_of moves) (answers_of line w moves) (state_after line v moves)
unfolding centres_show line_shows answers_of state_after play leave_no_choice
runs_forced line [] w v bound same forced = refl
runs_forced line (move ∷ moves) w v bound same forced =
    let parts =
    and_parts (leaves_no_choice line v move) (leave_no_choice line (played_on v (play line v move)) moves) forced in
    forced_with line v move moves (world_step line w move.event) (play line v move)
    (play_forced line v move.event move.choice move.quiets bound parts.0) parts.1 (runs_forced line moves) same

-- moves of a scene on a one-centre line that leave no choice are met by a forced run
pub met_by_forced_run : (line : Line) (c : ℕ) (scene : List Scene) (moves : List Move) → IsOneCentreLine line c
    → events_of moves ≡ filter_map event_of scene
    → centres_show line (new_world line) moves ≡ line_shows line line_beginning moves
    → leave_no_choice line line_beginning moves ≡ true
    → sheet line (read_off line (new_world line)) ≡ sheet line line_beginning → IsMetByForcedRun line c scene
met_by_forced_run line c scene moves one events same forced first =
    let by_moves = met line moves (new_world line) line_beginning (beginning_within line) same in
    record {
      answers = answers_of line (new_world line) moves;
      after = world_after line (new_world line) moves;
      last = state_after line line_beginning moves;
      one_centre = one;
      ran =
          subst (λ es. world_run line (new_world line) es
          ≡ Ok (answers_of line (new_world line) moves, world_after line (new_world line) moves)) events by_moves.ran;
      is_run =
          subst (λ es. ForcedRun line line_beginning es (answers_of line (new_world line) moves)
          (state_after line line_beginning moves)) events
          (runs_forced line moves (new_world line) line_beginning (beginning_within line) same forced);
      read = by_moves.read first;
    }

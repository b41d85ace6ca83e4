-- A move that the rules of the one line centre allow is a piece. Moves that show the answers of the centres form a run.
use Rattle.std.proofs.Common.{[], ◌||◌, ◌∷◌, ◌≡◌, ◌⊎◌, ap, Bool, Err, false, if◌then◌else◌, inl, inr, is_none, List}
use Rattle.std.proofs.Common.{None, not, Ok, Option, refl, Result, Some, subst, sym, true, true≢false, ℕ, ⊎_elim}
use Rattle.std.proofs.lemmas.Bool.{and_parts, not-true, or_cases}
use Rattle.std.proofs.lemmas.Option.{none-some, same_Some}
use Rattle.std.specs.List.{filter_map, list_all}
use Rattle.std.specs.Option.{option_map_or}
use Rattle.rbc_spec.proofs.Lists.{none_is}
use Rattle.rbc_spec.specs.Line.{is_centre, Line}
use Rattle.rbc_spec.specs.LineCentre.{line_beginning, LineState}
use Rattle.rbc_spec.specs.Outcome.{Outcome, Reason}
use Rattle.rbc_spec.specs.Quiet.{both, is_of_centre, Quiet, TakesAll}
use Rattle.rbc_spec.specs.ReadOff.{read_off}
use Rattle.rbc_spec.specs.Run as run
use Rattle.rbc_spec.specs.Step.{Refusal}
use Rattle.rbc_spec.specs.World.{Answer, Answered, Bytes, centre_of, Delivery, Event, Fault, new_world, NoCentre}
use Rattle.rbc_spec.specs.World.{NotSent, Set, Unset, World, world_run, world_step}
use Rattle.test_scenes.proofs.Bounds.{IsWithinLine}
use Rattle.test_scenes.proofs.InOrder.{in_order}
use Rattle.test_scenes.proofs.OwnTurns.{IsStep, own_step_is}
use Rattle.test_scenes.proofs.QuietTurns.{AreQuiet, quiets_are}
use Rattle.test_scenes.proofs.Valid.{Valid, valid_allowed, valid_then}
use Rattle.test_scenes.specs.Moves.{are_none, BadBytes, is_piece, Move, NeverSent, Nowhere, play, play_by, Played}
use Rattle.test_scenes.specs.Moves.{played, Shown, Speaks, Spoken, spoken_in, tells_in_order, without_piece}
use Rattle.test_scenes.specs.Pieces.{centres_show, event_of, events_of, GoesWith, IsMetByRun, line_shows, NotAllowed}
use Rattle.test_scenes.specs.Pieces.{Seen, seen_after, seen_of_line, Sheet, sheet, shown_by, Shows}
use Rattle.test_scenes.specs.Scene.{Scene}
use Rattle.test_scenes.specs.Turns.{allowed, Choice, Extending, Listening, own_step, Plainly, quiet_turns, Rejecting}
use Rattle.test_scenes.specs.Turns.{Step, Turn, Unanswered}

-- ## From the shown content to the answer

abbrev spoken_of : Shown → Option Spoken
spoken_of (Speaks spoken) = Some spoken
spoken_of other = None

abbrev number_of : Shown → Option ℕ
number_of (BadBytes number) = Some number
number_of other = None

abbrev is_nowhere : Shown → Bool
is_nowhere Nowhere = true
is_nowhere other = false

abbrev is_never_sent : Shown → Bool
is_never_sent NeverSent = true
is_never_sent other = false

-- P holds for each answer that shows this, if it holds for each outcome that shows this
pub at_speaking : (P : Answer → Type 0) (spoken : Spoken)
    → ((outcome : Outcome) → spoken_in outcome ≡ spoken → P (Answered outcome))
    → (answer : Answer) → shown_by answer ≡ Speaks spoken → P answer
at_speaking P spoken so (Answered outcome) is = so outcome (same_Some _ _ (ap spoken_of is))
at_speaking P spoken so NoCentre is = absurd (none-some _ (ap spoken_of is))
at_speaking P spoken so NotSent is = absurd (none-some _ (ap spoken_of is))
at_speaking P spoken so (Fault number) is = absurd (none-some _ (ap spoken_of is))

at_fault : (P : Answer → Type 0) (n : ℕ) → ((number : ℕ) → number ≡ n → P (Fault number)) → (answer : Answer)
    → shown_by answer ≡ BadBytes n → P answer
at_fault P n so (Answered outcome) is = absurd (none-some _ (ap number_of is))
at_fault P n so NoCentre is = absurd (none-some _ (ap number_of is))
at_fault P n so NotSent is = absurd (none-some _ (ap number_of is))
at_fault P n so (Fault number) is = so number (same_Some _ _ (ap number_of is))

at_no_centre : (P : Answer → Type 0) → P NoCentre → (answer : Answer) → shown_by answer ≡ Nowhere → P answer
at_no_centre P so (Answered outcome) is = absurd (true≢false (sym (ap is_nowhere is)))
at_no_centre P so NoCentre is = so
at_no_centre P so NotSent is = absurd (true≢false (sym (ap is_nowhere is)))
at_no_centre P so (Fault number) is = absurd (true≢false (sym (ap is_nowhere is)))

at_not_sent : (P : Answer → Type 0) → P NotSent → (answer : Answer) → shown_by answer ≡ NeverSent → P answer
at_not_sent P so (Answered outcome) is = absurd (true≢false (sym (ap is_never_sent is)))
at_not_sent P so NoCentre is = absurd (true≢false (sym (ap is_never_sent is)))
at_not_sent P so NotSent is = so
at_not_sent P so (Fault number) is = absurd (true≢false (sym (ap is_never_sent is)))

-- ## Moves

-- the line centre meets each answer that shows this, in this state
abbrev Meets : Line → LineState → Event → LineState → Shown → Type 0
Meets line v event new shown = (answer : Answer) → shown_by answer ≡ shown → run.Goes line v event answer new

record IsPiece (line : Line) (v : LineState) (event : Event) (p : Played) : Type 0 where
  meets : Meets line v event p.state p.shown
  bound : IsWithinLine line p.state.mark

-- an event without a piece changes nothing
unmet_is : (line : Line) (v : LineState) (event : Event) → Valid (Meets line v event v) (without_piece line event)
unmet_is line v (Bytes c (Ok m)) = valid_allowed (Meets line v (Bytes c (Ok m)) v) (not (is_centre line c)) Nowhere
    (λ so. at_no_centre (λ answer. run.Goes line v (Bytes c (Ok m)) answer v) (not-true _ so, refl))
unmet_is line v (Bytes c (Err number)) = unmet_bytes line v c number (is_centre line c) refl
  where
    unmet_bytes : (line : Line) (v : LineState) (c number : ℕ) (b : Bool) → is_centre line c ≡ b
        → Valid (Meets line v (Bytes c (Err number)) v) (if b then Some (BadBytes number) else Some Nowhere)
    unmet_bytes line v c number true is =
        at_fault (λ answer. run.Goes line v (Bytes c (Err number)) answer v) number (λ n same. (is, same, refl))
    unmet_bytes line v c number false is =
        at_no_centre (λ answer. run.Goes line v (Bytes c (Err number)) answer v) (is, refl)
unmet_is line v (Set c s) = valid_allowed (Meets line v (Set c s) v) (not (is_centre line c)) Nowhere
    (λ so. at_no_centre (λ answer. run.Goes line v (Set c s) answer v) (not-true _ so, refl))
unmet_is line v (Unset c s) = valid_allowed (Meets line v (Unset c s) v) (not (is_centre line c)) Nowhere
    (λ so. at_no_centre (λ answer. run.Goes line v (Unset c s) answer v) (not-true _ so, refl))
unmet_is line v (Delivery from to number) =
    at_not_sent (λ answer. run.Goes line v (Delivery from to number) answer v) refl

pub none_or : (own : Step) (quiets : List Quiet) → (is_none own.why || are_none quiets) ≡ true
    → (own.why ≡ None) ⊎ (quiets ≡ [])
none_or own quiets so =
    ⊎_elim (λ (is : is_none own.why ≡ true). inl (none_is own.why is))
    (λ (is : are_none quiets ≡ true). inr (nil_is quiets is))
    (or_cases (is_none own.why) (are_none quiets) so)
  where
    nil_is : (qs : List Quiet) → are_none qs ≡ true → qs ≡ []
    nil_is [] is = refl
    nil_is (q ∷ qs) is = absurd (true≢false (sym is))

-- an own step and quiet steps that pass the tests of a piece
abbrev pub piece_with : (line : Line) (v : LineState) (event : Event) (own : Step) (quiets : List Quiet) (later : Turn)
    (outcome : Outcome)
    → run.OwnStep line v event own.turn.said own.turn.state own.why
    → TakesAll line own.turn.state quiets later.said later.state
    → spoken_in outcome ≡ record { said = both own.turn.said later.said; silence = own.why }
    → is_piece line event own quiets later ≡ true
    → run.Piece line v event outcome later.state
piece_with line v event own quiets later outcome own_step quiet_steps says so =
    let silent : outcome.silence ≡ own.why = ap (λ (x : Spoken). x.silence) says in
    let tests = and_parts (list_all (is_of_centre line (centre_of event)) quiets) _ so in
    let others =
    and_parts (is_none own.why || are_none quiets) (tells_in_order (both own.turn.said later.said).words) tests.1 in
    record {
      own = own.turn.said;
      mid = own.turn.state;
      quiets = quiets;
      later = later.said;
      own_step = subst (run.OwnStep line v event own.turn.said own.turn.state) (sym silent) own_step;
      quiet_steps = quiet_steps;
      own_centre = tests.0;
      none_if_silent =
          subst (λ (why : Option Reason). (why ≡ None) ⊎ (quiets ≡ [])) (sym silent) (none_or own quiets others.0);
      in_order =
          subst run.TellsInOrder (sym (ap (λ (x : Spoken). x.said.words) says))
          (in_order (both own.turn.said later.said).words others.1);
      says = ap (λ (x : Spoken). x.said) says;
    }

-- an own step and quiet steps form a piece
piece_is : (line : Line) (v : LineState) (event : Event) (choice : Choice) (quiets : List Quiet)
    → IsWithinLine line v.mark
    → Valid (IsPiece line v event) (option_map_or
    (λ own. option_map_or (λ later. allowed (is_piece line event own quiets later) (played own later))
    (quiet_turns line own.turn.state quiets) None) (own_step line v event choice) None)
piece_is line v event choice quiets bound =
    valid_then (IsStep line v event) (IsPiece line v event) _ (own_step line v event choice)
    (own_step_is line v event choice bound) (λ own first.
    valid_then (AreQuiet line own.turn.state quiets) (IsPiece line v event) _ (quiet_turns line own.turn.state quiets)
    (quiets_are line own.turn.state quiets first.1) (λ later others.
    valid_allowed (IsPiece line v event) (is_piece line event own quiets later) (played own later) (λ so. record {
      meets =
          at_speaking (λ answer. run.Goes line v event answer later.state) _
          (λ outcome says. piece_with line v event own quiets later outcome first.0 others.0 says so);
      bound = others.1;
    })))

play_is : (line : Line) (v : LineState) (event : Event) (choice : Choice) (quiets : List Quiet)
    → IsWithinLine line v.mark
    → Valid (IsPiece line v event) (play_by line v event choice quiets)
play_is line v event Unanswered quiets bound =
    valid_then (Meets line v event v) (IsPiece line v event) _ (without_piece line event) (unmet_is line v event)
    (λ shown meets. record { meets = meets; bound = bound })
play_is line v event Plainly quiets bound = piece_is line v event Plainly quiets bound
play_is line v event Rejecting quiets bound = piece_is line v event Rejecting quiets bound
play_is line v event Listening quiets bound = piece_is line v event Listening quiets bound
play_is line v event (Extending count) quiets bound = piece_is line v event (Extending count) quiets bound

-- ## Side by side

-- the content that is shown first
abbrev pub shown_first : Shown → List Seen → Shown
shown_first other (Shows shown line ∷ xs) = shown
shown_first other xs = other

abbrev pub line_first : Sheet → List Seen → Sheet
line_first other (Shows shown line ∷ xs) = line
line_first other xs = other

abbrev pub is_shown : List Seen → Bool
is_shown (Shows shown line ∷ xs) = true
is_shown xs = false

abbrev pub is_allowed : List Seen → Bool
is_allowed (NotAllowed ∷ xs) = false
is_allowed xs = true

abbrev pub after_first : List Seen → List Seen
after_first [] = []
after_first (x ∷ xs) = xs

-- the answers to moves, the last world, and the last state of the line centre
abbrev pub answers_with : Result (Answer × World) Refusal → (World → List Answer) → List Answer
answers_with (Ok (answer, after)) others = answer ∷ others after
answers_with (Err why) others = []

unfoldable pub answers_of : Line → World → List Move → List Answer
answers_of line w [] = []
answers_of line w (move ∷ moves) = answers_with (world_step line w move.event) (λ after. answers_of line after moves)

abbrev pub world_with : World → Result (Answer × World) Refusal → (World → World) → World
world_with w (Ok (answer, after)) others = others after
world_with w (Err why) others = w

unfoldable pub world_after : Line → World → List Move → World
world_after line w [] = w
world_after line w (move ∷ moves) = world_with w (world_step line w move.event) (λ after. world_after line after moves)

abbrev pub state_with : LineState → Option Played → (LineState → LineState) → LineState
state_with v (Some p) others = others p.state
state_with v None others = v

unfoldable pub state_after : Line → LineState → List Move → LineState
state_after line v [] = v
state_after line v (move ∷ moves) = state_with v (play line v move) (λ new. state_after line new moves)

-- a run meets the answers of the moves
pub record Met (line : Line) (w : World) (v : LineState) (moves : List Move) (answers : List Answer) (after : World)
    (last : LineState) : Type 0 where
  pub goes : GoesWith line w v moves
  pub ran : world_run line w (events_of moves) ≡ Ok (answers, after)
  pub is_run : run.Run line v (events_of moves) answers last
  pub read : sheet line (read_off line w) ≡ sheet line v → sheet line (read_off line after) ≡ sheet line last

-- the same after one event
step_with : (line : Line) (w : World) (v : LineState) (move : Move) (moves : List Move)
    (result : Result (Answer × World) Refusal) → world_step line w move.event ≡ result → (p : Option Played)
    → Valid (IsPiece line v move.event) p
    → ((after : World) (new : LineState) → IsWithinLine line new.mark
    → centres_show line after moves ≡ line_shows line new moves
    → Met line after new moves (answers_of line after moves) (world_after line after moves)
    (state_after line new moves))
    → seen_after line result (λ after. centres_show line after moves)
    ≡ seen_of_line line p (λ new. line_shows line new moves)
    → Met line w v (move ∷ moves) (answers_with result (λ after. answers_of line after moves))
    (world_with w result (λ after. world_after line after moves))
    (state_with v p (λ new. state_after line new moves))
unfolding world_run
step_with line w v move moves (Ok (answer, after)) is (Some p) piece others same =
    let here = piece.meets answer (ap (shown_first p.shown) same) in
    let read = ap (line_first (sheet line p.state)) same in
    let met = others after p.state piece.bound (ap after_first same) in
    record {
      goes = (answer, after, p.state, is, here, read, met.goes);
      ran = rw (is, met.ran);
      is_run = (p.state, here, met.is_run);
      read = λ _. met.read read;
    }
step_with line w v move moves (Ok (answer, after)) is None piece others same = absurd (true≢false (ap is_shown same))
step_with line w v move moves (Err why) is (Some p) piece others same = absurd (true≢false (sym (ap is_shown same)))
step_with line w v move moves (Err why) is None piece others same = absurd (true≢false (ap is_allowed same))

pub met : (line : Line) (moves : List Move) (w : World) (v : LineState) → IsWithinLine line v.mark
    → centres_show line w moves ≡ line_shows line v moves
    → Met line w v moves (answers_of line w moves) (world_after line w moves) (state_after line v moves)
unfolding centres_show line_shows answers_of world_after state_after world_run play
met line [] w v bound same = record { goes = tt; ran = refl; is_run = refl; read = λ first. first }
met line (move ∷ moves) w v bound same =
    step_with line w v move moves (world_step line w move.event) refl (play line v move)
    (play_is line v move.event move.choice move.quiets bound) (met line moves) same

-- no section is given in the initial state
pub beginning_within : (line : Line) → IsWithinLine line line_beginning.mark
unfolding line_beginning
beginning_within line = record { given = λ t s given. absurd (true≢false (sym given)) }

-- a run meets the moves of a scene that show the answers of the centres
pub met_by_run : (line : Line) (scene : List Scene) (moves : List Move) → events_of moves ≡ filter_map event_of scene
    → centres_show line (new_world line) moves ≡ line_shows line line_beginning moves
    → sheet line (read_off line (new_world line)) ≡ sheet line line_beginning → IsMetByRun line scene moves
met_by_run line scene moves events same first =
    let by_moves = met line moves (new_world line) line_beginning (beginning_within line) same in
    record {
      answers = answers_of line (new_world line) moves;
      after = world_after line (new_world line) moves;
      last = state_after line line_beginning moves;
      of_scene = events;
      by_events = by_moves.goes;
      ran = by_moves.ran;
      is_run = by_moves.is_run;
      read = by_moves.read first;
    }

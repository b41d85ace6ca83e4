-- The one line centre, played by hand. A turn is the messages and replies of an event or of quiet steps, with the new
-- state, if the rules allow it. Turns are computed. One proof shows that they meet the relations of the one line
-- centre.
use Rattle.std.specs.List.{find, list_all, range_with_len}
use Rattle.std.specs.Option.{option_map_or}
use Rattle.std.specs.Prelude.{[], ◌&&◌, ◌*◌, ◌++◌, ◌+◌, ◌-◌, ◌==◌, ◌||◌, ◌∷◌, Bool, false, if◌then◌else◌, is_none, List}
use Rattle.std.specs.Prelude.{max, nat_le, nat_lt, None, not, Ok, Option, Some, true, ℕ}
use Rattle.rbc_spec.specs.Centre.{Closed, is_registrar_of, is_up, Opened, Up}
use Rattle.rbc_spec.specs.Line.{end, is_centre, is_home, Line, next_centre, start}
use Rattle.rbc_spec.specs.LineCentre.{At, change_mission, free, Given, hears, is_at, is_given_to, is_kept_for}
use Rattle.rbc_spec.specs.LineCentre.{is_mark_open, is_waiting, is_waiting_at, Kept, LineMission, LineState, mark_all}
use Rattle.rbc_spec.specs.LineCentre.{Open, Parted, Said, saying_of, says, set_mission, Shut, supervises, Supervisor}
use Rattle.rbc_spec.specs.LineCentre.{told}
use Rattle.rbc_spec.specs.Maps.{put, put_pair}
use Rattle.rbc_spec.specs.Message.{Authority, DataAcknowledged, EndOfMission, EndSession, InitiationOfSession, Report}
use Rattle.rbc_spec.specs.Message.{Request, SessionEstablished, ShorteningGranted, ShorteningRejected}
use Rattle.rbc_spec.specs.Message.{ShorteningRequest, StartOfMission, SystemVersion, TerminationAcknowledged}
use Rattle.rbc_spec.specs.Message.{TerminationOfSession, TrackBody, TrainAccepted, TrainBody, TrainData, TrainMessage}
use Rattle.rbc_spec.specs.Message.{TrainRejected, Transition, unknown_group}
use Rattle.rbc_spec.specs.Outcome.{Asked, Done, NotHome, Reason, Word}
use Rattle.rbc_spec.specs.OwnSteps.{begins, ended, is_cleared_of, is_unused_mark, last_kept_of, may_be_given, may_start}
use Rattle.rbc_spec.specs.OwnSteps.{release_words, reported, restarted, session_ends, set_mark, shortened}
use Rattle.rbc_spec.specs.OwnSteps.{shortening_words, stopped, stopping_words, track_of, waits, wished_back, with_phase}
use Rattle.rbc_spec.specs.OwnSteps.{without_ask}
use Rattle.rbc_spec.specs.Place.{covered, fit_place, group_start, Place, place_on}
use Rattle.rbc_spec.specs.Quiet.{Admit, both, Dismiss, EndOrder, Keep, LayDown, Order, Propose, Quiet, TakeUp, Unkeep}
use Rattle.rbc_spec.specs.Run.{may_listen, silence}
use Rattle.rbc_spec.specs.SectionRuns.{all_of, next_after, SectionRun, within}
use Rattle.rbc_spec.specs.Sections.{is_on, nid_rbc, run_where, section_count}
use Rattle.rbc_spec.specs.World.{Bytes, Delivery, Event, Set, Unset}

-- the choice at an event, if the rules leave one
pub data Choice : Type 0 where
  Plainly : Choice
  Rejecting : Choice  -- a start at the registrar is rejected: the right is elsewhere
  Listening : Choice  -- a report of a train that is not supervised there is heard
  Extending : (count : ℕ) → Choice  -- the hand is extended by so many sections
  Unanswered : Choice  -- the event has no piece: it is at no centre of the line, or the frame was never sent

-- the messages and replies, and the new state
pub record Turn : Type 0 where
  pub said : Said
  pub state : LineState

-- ## Turns

abbrev pub telling : List Word → LineState → Turn
telling words changed = record { said = record { sayings = []; words = words }; state = changed }

abbrev pub quietly : LineState → Turn
quietly = telling []

-- one message, and the new state but for the count of messages
abbrev pub answering : (t c group : ℕ) → TrackBody → List Word → LineState → LineState → Turn
answering t c group body words v changed =
    record { said = record { sayings = saying_of t c group body v ∷ []; words = words }; state = says t c changed }

-- the turn, if it is allowed
abbrev pub allowed : {X : Type 0} → Bool → X → Option X
allowed is_allowed x = if is_allowed then Some x else None

-- ## Hands

-- the sections that are given to the train, as a run
abbrev pub hand_of : Line → LineState → ℕ → SectionRun
hand_of line v t = run_where line (λ s. is_given_to t (v.mark s))

abbrev pub is_same : Bool → Bool → Bool
is_same true b = b
is_same false b = not b

-- these sections are the hand
abbrev pub is_hand : Line → LineState → ℕ → SectionRun → Bool
is_hand line v t hand =
    list_all (λ s. is_same (is_given_to t (v.mark s)) (within hand s)) (range_with_len 0 (section_count line))
    && nat_le (next_after hand) (section_count line)

-- the hand may not be longer
abbrev pub is_end : Line → LineState → ℕ → Place → SectionRun → Bool
is_end line v c place hand =
    (not (is_on line place.track (next_after hand))
    || not (is_home line c (next_after hand) && is_mark_open (v.mark (next_after hand))))
    || ((hand.count == 32) || not (nat_le (end line (next_after hand)) (group_start line place + 32767)))

-- the hand may be extended by this run, and no further
abbrev pub may_extend : Line → LineState → (t c : ℕ) → Place → SectionRun → SectionRun → Bool
may_extend line v t c place hand r =
    (is_hand line v t hand && all_of (λ s. may_be_given line v c t s && is_on line place.track s) r)
    && (is_end line v c place (record { first = hand.first; count = hand.count + r.count })
    && (nat_le (hand.count + r.count) 32
    && nat_le (end line (next_after hand + r.count - 1)) (group_start line place + 32767)))

abbrev pub extended : Line → LineState → (t c : ℕ) → Place → SectionRun → SectionRun → Turn
extended line v t c place hand r =
    answering t c place.group (Authority (end line (next_after hand + r.count - 1) - group_start line place)) [] v
    (change_mission t (λ m. record m { place = place }) (mark_all (within r) (Given t) v))

abbrev pub extend : Line → LineState → (t c : ℕ) → Place → SectionRun → ℕ → Option Turn
extend line v t c place hand count =
    allowed (may_extend line v t c place hand (record { first = next_after hand; count = count }))
    (extended line v t c place hand (record { first = next_after hand; count = count }))

-- ## Own steps

abbrev pub accepting : (t c : ℕ) → LineState → LineState → Turn
accepting t c = answering t c unknown_group TrainAccepted []

abbrev pub rejecting : (t c : ℕ) → LineState → Turn
rejecting t c v = answering t c unknown_group TrainRejected [] v v

abbrev pub start_here : Line → (t c : ℕ) → Place → LineState → Choice → Option Turn
start_here line t c place v Rejecting = Some (rejecting t c v)
start_here line t c place v choice = allowed (is_none (v.mission t)) (accepting t c v (begins line t c place v))

abbrev pub restart : Line → (t c : ℕ) → Place → LineState → Option Turn
restart line t c place v =
    if all_of (λ s. is_given_to t (v.mark s)) (covered line place) then Some (accepting t c v (restarted t place v))
    else Some (rejecting t c v)

abbrev pub start_new : Line → (t c : ℕ) → Place → LineState → Choice → Option Turn
start_new line t c place v choice =
    if may_start line v c place
    then (if is_registrar_of line c t then start_here line t c place v choice
    else Some (quietly (waits line t c place v)))
    else Some (rejecting t c v)

abbrev pub start_at : Line → (t c : ℕ) → Option Place → LineState → Choice → Option Turn
start_at line t c None v choice = Some (rejecting t c v)
start_at line t c (Some place) v choice =
    if supervises v c t then restart line t c place v else start_new line t c place v choice

abbrev pub request_at : Line → (t c : ℕ) → Option Place → LineState → Choice → Option Turn
request_at line t c (Some place) v (Extending count) = extend line v t c place (hand_of line v t) count
request_at line t c place v choice = None

abbrev pub report_at : Line → (t c : ℕ) → Place → LineState → Turn
report_at line t c place v = telling (release_words line c (is_cleared_of line v t place) v) (reported line t c place v)

abbrev pub end_at : Line → (t c : ℕ) → Bool → Option Place → LineState → Turn
end_at line t c is_still None v = quietly (ended t v)
end_at line t c false (Some place) v =
    telling (release_words line c (is_cleared_of line v t place) v) (ended t (reported line t c place v))
end_at line t c true (Some place) v =
    let there = reported line t c place v in
    telling (release_words line c (is_cleared_of line v t place) v ++ stopping_words line t c place there)
    (ended t (stopped line t c place there))

-- a session ends, with the replies for the sections of its waiting start
abbrev pub session_turn : Line → (t c : ℕ) → TrackBody → LineState → LineState → Turn
session_turn line t c body v changed =
    answering t c unknown_group body (told line (is_waiting_at line v t c) v) v changed

abbrev pub shortening : Line → (t c : ℕ) → Option Place → LineState → Turn
shortening line t c place v =
    telling (shortening_words line t c place (last_kept_of v t) v)
    (shortened line t c place (last_kept_of v t) (without_ask t v))

-- the place of the report, if it is on the mission's track
abbrev pub placed : Line → ℕ → TrainBody → LineState → Option Place
placed line t (Request position) v = place_on line (track_of v t) position
placed line t (Report position) v = place_on line (track_of v t) position
placed line t (ShorteningGranted stamp position) v = place_on line (track_of v t) position
placed line t (EndOfMission position) v = place_on line (track_of v t) position
placed line t body v = None

abbrev pub own_turn : Line → ℕ → TrainMessage → TrainBody → LineState → Choice → Option Turn
own_turn line c m InitiationOfSession v choice =
    Some (session_turn line m.nid_engine c SystemVersion v
    (with_phase m.nid_engine c Opened (session_ends line m.nid_engine c v)))
own_turn line c m TerminationOfSession v choice =
    Some (session_turn line m.nid_engine c TerminationAcknowledged v
    (with_phase m.nid_engine c Closed (session_ends line m.nid_engine c v)))
own_turn line c m SessionEstablished v choice = Some (quietly (with_phase m.nid_engine c Up v))
own_turn line c m (StartOfMission is_valid position) v choice =
    start_at line m.nid_engine c (fit_place line is_valid position) v choice
own_turn line c m (TrainData position) v choice =
    Some (answering m.nid_engine c unknown_group (DataAcknowledged m.t_train) [] v
    (change_mission m.nid_engine (λ n. record n { has_data = true }) v))
own_turn line c m (Request position) v choice =
    request_at line m.nid_engine c (placed line m.nid_engine (Request position) v) v choice
own_turn line c m (Report position) v choice =
    option_map_or (λ place. Some (report_at line m.nid_engine c place v))
    (placed line m.nid_engine (Report position) v) None
own_turn line c m (ShorteningGranted stamp position) v choice =
    Some (shortening line m.nid_engine c (placed line m.nid_engine (ShorteningGranted stamp position) v) v)
own_turn line c m (ShorteningRejected stamp position) v choice = Some (quietly (without_ask m.nid_engine v))
own_turn line c m (EndOfMission position) v choice =
    Some (end_at line m.nid_engine c (position.v_train == 0) (placed line m.nid_engine (EndOfMission position) v) v)

abbrev pub set_turn : Line → (c s : ℕ) → LineState → Option Turn
set_turn line c s v =
    if is_home line c s
    then Some (telling (Done s ∷ []) (if is_unused_mark (v.mark s) then set_mark s Open v else wished_back s false v))
    else Some (telling (NotHome s ∷ []) v)

abbrev pub unset_turn : Line → (c s : ℕ) → LineState → Option Turn
unset_turn line c s v =
    if is_home line c s
    then (if is_unused_mark (v.mark s) then Some (telling (Done s ∷ []) (set_mark s Shut v))
    else Some (telling (Asked s ∷ []) (wished_back s true v)))
    else Some (telling (NotHome s ∷ []) v)

-- an own step, or the reason of silence
pub record Step : Type 0 where
  pub turn : Turn
  pub why : Option Reason

-- an own step that is answered
abbrev pub spoken : Option Turn → Option Step
spoken turn = option_map_or (λ t. Some (record { turn = t; why = None })) turn None

abbrev pub message_step : Line → ℕ → TrainMessage → LineState → Choice → Option Reason → Option Step
message_step line c m v Listening why =
    allowed (may_listen line c m.body why) (record { turn = quietly (hears c m v); why = None })
message_step line c m v choice (Some reason) = Some (record { turn = quietly v; why = Some reason })
message_step line c m v choice None = spoken (own_turn line c m m.body (hears c m v) choice)

abbrev pub own_step : Line → LineState → Event → Choice → Option Step
own_step line v (Bytes c (Ok m)) choice =
    if is_centre line c then message_step line c m v choice (silence line v c m) else None
own_step line v (Set c s) choice = if is_centre line c then spoken (set_turn line c s v) else None
own_step line v (Unset c s) choice = if is_centre line c then spoken (unset_turn line c s v) else None
own_step line v (Delivery from to number) choice = spoken (Some (quietly v))
own_step line v event choice = None

-- ## Quiet steps

abbrev pub admitted : Line → LineState → (t c : ℕ) → Place → Turn
admitted line v t c place = accepting t c v (record (begins line t c place v) { wait = put_pair v.wait t c None })

abbrev pub dismissed : Line → LineState → (t c : ℕ) → Turn
dismissed line v t c =
    answering t c unknown_group TrainRejected (told line (is_waiting_at line v t c) v) v
    (record (free (is_waiting_at line v t c) v) { wait = put_pair v.wait t c None })

abbrev pub laid_down : LineState → ℕ → LineMission → ℕ → Turn
laid_down v t m stamp = quietly (set_mission t (Some (record m { supervisor = Parted stamp; proposal = None })) v)

abbrev pub taken_up : LineState → (t c : ℕ) → LineMission → ℕ → Turn
taken_up v t c m stamp = quietly
    (record (set_mission t (Some (record m { supervisor = At c })) v) {
      heard = put_pair v.heard t c
          (Some (option_map_or (max stamp) (v.heard t c) stamp));
    })

-- the stamp of a supervision while it is handed over
abbrev pub parted_at : Supervisor → Option ℕ
parted_at (At c) = None
parted_at (Parted stamp) = Some stamp

abbrev pub may_propose : Line → LineState → (t c s : ℕ) → LineMission → SectionRun → Bool
may_propose line v t c s m hand =
    ((is_at c m.supervisor && is_up (v.phase t c)) && (not m.is_ended && is_none m.proposal))
    && ((is_hand line v t hand && within hand s)
    && (nat_lt hand.first s &&
    (nat_le m.place.front (10 * start line s) && nat_le (start line s) (group_start line m.place + 32767))))

abbrev pub proposed : Line → LineState → (t c s : ℕ) → LineMission → Turn
proposed line v t c s m =
    answering t c m.place.group (ShorteningRequest (start line s - group_start line m.place)) [] v
    (change_mission t (λ n. record n { proposal = Some (record { stamp = v.said t c + 1; last_kept = s - 1 }) }) v)

-- the train has the section, and its home is the next centre
abbrev pub is_over_border : Line → LineState → (t next s : ℕ) → Bool
is_over_border line v t next s = is_given_to t (v.mark s) && is_home line next s

abbrev pub may_order : Line → LineState → (t c : ℕ) → LineMission → (border : ℕ) → Bool
may_order line v t c m border =
    (is_at c m.supervisor && is_up (v.phase t c))
    && (nat_le (group_start line m.place) (start line border)
    && nat_le (start line border) (group_start line m.place + 32767))

abbrev pub ordered : Line → LineState → (t c : ℕ) → LineMission → (next border : ℕ) → Turn
ordered line v t c m next border =
    answering t c m.place.group
    (Transition (start line border - group_start line m.place) line.nid_c (nid_rbc line next)) [] v v

abbrev pub order_to : Line → LineState → (t c : ℕ) → LineMission → ℕ → Option Turn
order_to line v t c m next = option_map_or
    (λ border. allowed (may_order line v t c m border) (ordered line v t c m next border))
    (find (is_over_border line v t next) (range_with_len 0 (section_count line))) None

abbrev pub may_end : Line → LineState → (t c : ℕ) → Bool
may_end line v t c =
    (not (supervises v c t) && is_up (v.phase t c))
    && list_all (λ s. not (is_home line c s && is_given_to t (v.mark s))) (range_with_len 0 (section_count line))

abbrev pub quiet_turn : Line → LineState → Quiet → Option Turn
quiet_turn line v (Keep t s) = allowed (is_mark_open (v.mark s)) (quietly (record v { mark = put v.mark s (Kept t) }))
quiet_turn line v (Unkeep t s) =
    allowed (is_kept_for t (v.mark s) && not (is_waiting line v t s))
    (telling (told line (λ e. e == s) v) (free (λ e. e == s) v))
quiet_turn line v (Admit t c) =
    option_map_or (λ place. allowed (is_none (v.mission t)) (admitted line v t c place)) (v.wait t c) None
quiet_turn line v (Dismiss t c) = option_map_or (λ place. Some (dismissed line v t c)) (v.wait t c) None
quiet_turn line v (LayDown t c) =
    option_map_or (λ m. option_map_or (λ stamp. allowed (is_at c m.supervisor) (laid_down v t m stamp))
    (v.heard t c) None) (v.mission t) None
quiet_turn line v (TakeUp t c) =
    option_map_or (λ m. option_map_or (λ stamp. Some (taken_up v t c m stamp)) (parted_at m.supervisor) None)
    (v.mission t) None
quiet_turn line v (Propose t c s) =
    option_map_or (λ m. allowed (may_propose line v t c s m (hand_of line v t)) (proposed line v t c s m))
    (v.mission t) None
quiet_turn line v (Order t c) =
    option_map_or (λ m. option_map_or (order_to line v t c m) (next_centre line c m.place.track) None)
    (v.mission t) None
quiet_turn line v (EndOrder t c) =
    allowed (may_end line v t c) (answering t c unknown_group (EndSession line.nid_c (nid_rbc line c)) [] v v)

-- one turn, and then another
abbrev pub and_then : Turn → Turn → Turn
and_then a b = record { said = both a.said b.said; state = b.state }

unfoldable pub quiet_turns : Line → LineState → List Quiet → Option Turn
quiet_turns line v [] = Some (quietly v)
quiet_turns line v (q ∷ qs) =
    option_map_or (λ a. option_map_or (λ b. Some (and_then a b)) (quiet_turns line a.state qs) None)
    (quiet_turn line v q) None

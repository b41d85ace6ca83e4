-- The result of an event in Moves is an own step of the one line centre.
use Rattle.std.proofs.Common.{◌&&◌, ◌+◌, ◌-◌, ◌<◌, ◌==◌, ◌||◌, ◌∙◌, ◌≡◌, ◌≤◌, ap, arith, Bool, Err, false, inl, inr}
use Rattle.std.proofs.Common.{nat_le, nat_lt, None, not, Ok, Option, refl, Some, sym, true, ℕ, ⊎_elim}
use Rattle.std.proofs.lemmas.Bool.{and_parts, cases_Bool, cases_lt, eqb-true, leb-true, ltb-true, not-true, or_cases}
use Rattle.std.specs.Option.{option_map_or}
use Rattle.rbc_spec.proofs.Lists.{each_of, none_is}
use Rattle.rbc_spec.specs.Centre.{is_registrar_of}
use Rattle.rbc_spec.specs.Line.{end, is_centre, is_home, Line}
use Rattle.rbc_spec.specs.LineCentre.{hears, is_given_to, is_mark_open, is_waiting_at, IsHand, LineState, Open, Said}
use Rattle.rbc_spec.specs.LineCentre.{Shut, supervises}
use Rattle.rbc_spec.specs.Message.{EndOfMission, InitiationOfSession, Report, Request, SessionEstablished}
use Rattle.rbc_spec.specs.Message.{ShorteningGranted, ShorteningRejected, StartOfMission, TerminationOfSession}
use Rattle.rbc_spec.specs.Message.{TrainBody, TrainData, TrainMessage}
use Rattle.rbc_spec.specs.Outcome.{Reason}
use Rattle.rbc_spec.specs.OwnSteps.{begins, Ending, Ends, Extends, is_cleared_of, is_unused_mark, last_kept_of}
use Rattle.rbc_spec.specs.OwnSteps.{may_be_given, may_start, Own, release_words, reported, Restarts, set_mark, Sets}
use Rattle.rbc_spec.specs.OwnSteps.{Starts, StartsHere, StartsNew, Tells, track_of, Unsets, wished_back, without_ask}
use Rattle.rbc_spec.specs.Place.{covered, fit_place, group_start, Place, place_on, Position}
use Rattle.rbc_spec.specs.Run.{may_listen, OwnStep, silence, Steps}
use Rattle.rbc_spec.specs.SectionRuns.{all_of, next_after, SectionRun, within}
use Rattle.rbc_spec.specs.Sections.{is_on, section_count}
use Rattle.rbc_spec.specs.World.{Bytes, Delivery, Event, Set, Unset}
use Rattle.test_scenes.proofs.Bounds.{covered_within, IsWithinLine, on_within, within_free, within_given, within_kept}
use Rattle.test_scenes.proofs.Bounds.{within_one, within_put, within_reported, within_shortened, within_stopped}
use Rattle.test_scenes.proofs.Valid.{same, Valid, valid_allowed, valid_if, valid_map, valid_some, valid_then}
use Rattle.test_scenes.proofs.Valid.{valid_when}
use Rattle.test_scenes.specs.Turns.{Choice, end_at, extend, Extending, hand_of, is_end, is_hand, Listening}
use Rattle.test_scenes.specs.Turns.{message_step, own_step, own_turn, Rejecting, report_at, request_at, restart}
use Rattle.test_scenes.specs.Turns.{set_turn, start_at, start_here, start_new, Step, Turn, unset_turn}

-- the relation holds for the messages, replies and new state of a turn, and only sections of the line are given
abbrev pub Does : Line → (Said → LineState → Type 0) → Turn → Type 0
Does line P turn = P turn.said turn.state × IsWithinLine line turn.state.mark

-- ## Hands

-- a number that names no section is in no hand
beyond : (line : Line) (v : LineState) (t s : ℕ) → IsWithinLine line v.mark → section_count line ≤ s
    → is_given_to t (v.mark s) ≡ false
beyond line v t s bound past =
    ⊎_elim (λ (yes_given : is_given_to t (v.mark s) ≡ true). absurd (omega (arith, bound.given t s yes_given)))
    (λ (not_given : is_given_to t (v.mark s) ≡ false). not_given) (cases_Bool (is_given_to t (v.mark s)))

-- nor is it in a run that ends with the line
outside : (hand : SectionRun) (s : ℕ) → next_after hand ≤ s → within hand s ≡ false
unfolding within
outside hand s past = ⊎_elim
    (λ (yes_in : (nat_le hand.first s && nat_lt s (next_after hand)) ≡ true).
    absurd (omega (arith, ltb-true s (next_after hand) (and_parts _ _ yes_in).1)))
    (λ (not_in : (nat_le hand.first s && nat_lt s (next_after hand)) ≡ false). not_in)
    (cases_Bool (nat_le hand.first s && nat_lt s (next_after hand)))

pub hand_is : (line : Line) (v : LineState) (t : ℕ) (hand : SectionRun) → IsWithinLine line v.mark
    → is_hand line v t hand ≡ true → IsHand v t hand
hand_is line v t hand bound so = record {
  each = λ s. ⊎_elim
      (λ (small : s < section_count line). same (is_given_to t (v.mark s)) (within hand s)
      (each_of _ 0 (section_count line) (and_parts _ _ so).0 s (omega arith) (omega arith)))
      (λ (past : section_count line ≤ s). beyond line v t s bound past
      ∙ sym (outside hand s (omega (arith, leb-true (next_after hand) (section_count line) (and_parts _ _ so).1))))
      (cases_lt s (section_count line));
}

-- ## Requests

end_is : (line : Line) (v : LineState) (c : ℕ) (place : Place) (hand : SectionRun) → is_end line v c place hand ≡ true
    → Ends line v c place hand
end_is line v c place hand so = ⊎_elim
    (λ (near : (not (is_on line place.track (next_after hand))
    || not (is_home line c (next_after hand) && is_mark_open (v.mark (next_after hand)))) ≡ true). ⊎_elim
    (λ (off : not (is_on line place.track (next_after hand)) ≡ true). Ends.off_track (not-true _ off))
    (λ (used : not (is_home line c (next_after hand) && is_mark_open (v.mark (next_after hand))) ≡ true).
    Ends.not_free (not-true _ used))
    (or_cases _ _ near))
    (λ (far : ((hand.count == 32) || not (nat_le (end line (next_after hand)) (group_start line place + 32767)))
    ≡ true). ⊎_elim
    (λ (many : (hand.count == 32) ≡ true). Ends.full (eqb-true hand.count 32 many))
    (λ (beyond_reach : not (nat_le (end line (next_after hand)) (group_start line place + 32767)) ≡ true).
    Ends.too_far (not-true _ beyond_reach))
    (or_cases _ _ far))
    (or_cases _ _ so)

-- the sections by which a hand is extended are sections of the line
added_within : (line : Line) (v : LineState) (t c : ℕ) (place : Place) (r : SectionRun)
    → all_of (λ s. may_be_given line v c t s && is_on line place.track s) r ≡ true → (s : ℕ) → within r s ≡ true
    → s < section_count line
unfolding within
added_within line v t c place r each s so =
    let ends = and_parts _ _ so in
    on_within line place.track s
    (and_parts _ _ (each_of _ r.first r.count each s (leb-true r.first s ends.0) (ltb-true s (next_after r) ends.1))).1

extend_is : (line : Line) (v : LineState) (t c : ℕ) (place : Place) (hand : SectionRun) (count : ℕ)
    → IsWithinLine line v.mark
    → Valid (Does line (Extends line v t c place)) (extend line v t c place hand count)
extend_is line v t c place hand count bound = valid_allowed (Does line (Extends line v t c place)) _ _ (λ so.
    let parts = and_parts _ _ so in
    let hands = and_parts _ _ parts.0 in
    let rest = and_parts _ _ parts.1 in
    let sizes = and_parts _ _ rest.1 in (
      record {
        hand = hand;
        count = count;
        is_hand = hand_is line v t hand bound hands.0;
        each = hands.1;
        ends = end_is line v c place (record { first = hand.first; count = hand.count + count }) rest.0;
        room = leb-true (hand.count + count) 32 sizes.0;
        within_reach = leb-true (end line (next_after hand + count - 1)) (group_start line place + 32767) sizes.1;
        says_it = record { said_is = refl; new_is = refl };
      },
      within_given line (within (record { first = next_after hand; count = count })) t v
          (added_within line v t c place (record { first = next_after hand; count = count }) hands.1) bound,
    ))

-- a request with this place
abbrev pub Requested : Line → LineState → (t c : ℕ) → Position → Said → LineState → Type 0
Requested line v t c position said new =
    (place : Place) × (place_on line (track_of v t) position ≡ Some place) × Extends line v t c place said new

request_is : (line : Line) (v : LineState) (t c : ℕ) (position : Position) (choice : Choice) (place : Option Place)
    → place_on line (track_of v t) position ≡ place → IsWithinLine line v.mark
    → Valid (Does line (Requested line v t c position)) (request_at line t c place v choice)
request_is line v t c position choice None is bound = tt
request_is line v t c position (Extending count) (Some place) is bound =
    valid_map (Does line (Extends line v t c place)) (Does line (Requested line v t c position))
    (extend line v t c place (hand_of line v t) count)
    (extend_is line v t c place (hand_of line v t) count bound) (λ r does. ((place, is, does.0), does.1))
request_is line v t c position choice (Some place) is bound = tt

-- ## Starts of mission

begins_within : (line : Line) (t c : ℕ) (place : Place) (v : LineState) → IsWithinLine line v.mark
    → IsWithinLine line (begins line t c place v).mark
begins_within line t c place v bound =
    within_given line (within (covered line place)) t v (covered_within line place) bound

start_here_is : (line : Line) (t c : ℕ) (place : Place) (v : LineState) (choice : Choice) → IsWithinLine line v.mark
    → Valid (Does line (StartsHere line t c place v)) (start_here line t c place v choice)
start_here_is line t c place v Rejecting bound = (inr (record { said_is = refl; new_is = refl }), bound)
start_here_is line t c place v choice bound = valid_allowed (Does line (StartsHere line t c place v)) _ _ (λ so.
    (inl (none_is (v.mission t) so, record { said_is = refl; new_is = refl }), begins_within line t c place v bound))

restart_is : (line : Line) (t c : ℕ) (place : Place) (v : LineState) → IsWithinLine line v.mark
    → Valid (Does line (Restarts line t c place v)) (restart line t c place v)
restart_is line t c place v bound =
    valid_if _ _ (λ r. IsWithinLine line r.state.mark) (all_of (λ s. is_given_to t (v.mark s)) (covered line place)) _ _
    (record { said_is = refl; new_is = refl }, bound) (record { said_is = refl; new_is = refl }, bound)

start_new_is : (line : Line) (t c : ℕ) (place : Place) (v : LineState) (choice : Choice) → IsWithinLine line v.mark
    → Valid (Does line (StartsNew line t c place v)) (start_new line t c place v choice)
start_new_is line t c place v choice bound =
    valid_if _ _ (λ r. IsWithinLine line r.state.mark) (may_start line v c place) _ _
    (valid_if _ _ (λ r. IsWithinLine line r.state.mark) (is_registrar_of line c t) _ _
    (start_here_is line t c place v choice bound)
    (record { said_is = refl; new_is = refl }, within_kept line (within (covered line place)) t v bound))
    (record { said_is = refl; new_is = refl }, bound)

start_is : (line : Line) (t c : ℕ) (place : Option Place) (v : LineState) (choice : Choice) → IsWithinLine line v.mark
    → Valid (Does line (Starts line t c place v)) (start_at line t c place v choice)
start_is line t c None v choice bound = (record { said_is = refl; new_is = refl }, bound)
start_is line t c (Some place) v choice bound =
    valid_if _ _ (λ r. IsWithinLine line r.state.mark) (supervises v c t) _ _ (restart_is line t c place v bound)
    (start_new_is line t c place v choice bound)

-- ## The other messages

-- a report of a place on the mission's track
abbrev Reported : Line → (t c : ℕ) → Position → LineState → Said → LineState → Type 0
Reported line t c position v said new =
    (place : Place) × (place_on line (track_of v t) position ≡ Some place)
    × Tells (release_words line c (is_cleared_of line v t place) v) (reported line t c place v) said new

report_is : (line : Line) (t c : ℕ) (position : Position) (v : LineState) → IsWithinLine line v.mark
    → Valid (Does line (Reported line t c position v))
    (option_map_or (λ place. Some (report_at line t c place v)) (place_on line (track_of v t) position) None)
report_is line t c position v bound =
    valid_some (Does line (Reported line t c position v)) (λ place. Some (report_at line t c place v))
    (place_on line (track_of v t) position)
    (λ place is. ((place, is, record { said_is = refl; new_is = refl }), within_reported line t c place v bound))

end_of_mission_is : (line : Line) (t c : ℕ) (is_still : Bool) (place : Option Place) (v : LineState)
    → IsWithinLine line v.mark
    → Does line (Ending line t c is_still place v) (end_at line t c is_still place v)
end_of_mission_is line t c is_still None v bound = (record { said_is = refl; new_is = refl }, bound)
end_of_mission_is line t c false (Some place) v bound =
    (record { said_is = refl; new_is = refl }, within_reported line t c place v bound)
end_of_mission_is line t c true (Some place) v bound = (
  record { said_is = refl; new_is = refl },
  within_stopped line t c place (reported line t c place v) (within_reported line t c place v bound),
)

own_is : (line : Line) (c : ℕ) (m : TrainMessage) (body : TrainBody) (v : LineState) (choice : Choice)
    → IsWithinLine line v.mark
    → Valid (Does line (Own line v c m body)) (own_turn line c m body v choice)
own_is line c m InitiationOfSession v choice bound =
    (record { said_is = refl; new_is = refl }, within_free line (is_waiting_at line v m.nid_engine c) v bound)
own_is line c m TerminationOfSession v choice bound =
    (record { said_is = refl; new_is = refl }, within_free line (is_waiting_at line v m.nid_engine c) v bound)
own_is line c m SessionEstablished v choice bound = (record { said_is = refl; new_is = refl }, bound)
own_is line c m (StartOfMission is_valid position) v choice bound =
    start_is line m.nid_engine c (fit_place line is_valid position) v choice bound
own_is line c m (TrainData position) v choice bound = (record { said_is = refl; new_is = refl }, bound)
own_is line c m (Request position) v choice bound =
    request_is line v m.nid_engine c position choice (place_on line (track_of v m.nid_engine) position) refl bound
own_is line c m (Report position) v choice bound =
    report_is line m.nid_engine c position v bound
own_is line c m (ShorteningGranted stamp position) v choice bound = (
  record { said_is = refl; new_is = refl },
  within_shortened line m.nid_engine c (place_on line (track_of v m.nid_engine) position) (last_kept_of v m.nid_engine)
      (without_ask m.nid_engine v) bound,
)
own_is line c m (ShorteningRejected stamp position) v choice bound = (record { said_is = refl; new_is = refl }, bound)
own_is line c m (EndOfMission position) v choice bound =
    end_of_mission_is line m.nid_engine c (position.v_train == 0)
    (place_on line (track_of v m.nid_engine) position) v bound

-- ## Set and unset

set_is : (line : Line) (c s : ℕ) (v : LineState) → IsWithinLine line v.mark
    → Valid (Does line (Sets line v c s)) (set_turn line c s v)
set_is line c s v bound = valid_if _ _ (λ r. IsWithinLine line r.state.mark) (is_home line c s) _ _ (
  record { said_is = refl; new_is = refl },
  within_one line (is_unused_mark (v.mark s)) (set_mark s Open v) (wished_back s false v)
      (within_put line s Open v (λ t. refl) bound) bound,
)
    (record { said_is = refl; new_is = refl }, bound)

unset_is : (line : Line) (c s : ℕ) (v : LineState) → IsWithinLine line v.mark
    → Valid (Does line (Unsets line v c s)) (unset_turn line c s v)
unset_is line c s v bound = valid_if _ _ (λ r. IsWithinLine line r.state.mark) (is_home line c s) _ _
    (valid_if _ _ (λ r. IsWithinLine line r.state.mark) (is_unused_mark (v.mark s)) _ _
    (record { said_is = refl; new_is = refl }, within_put line s Shut v (λ t. refl) bound)
    (record { said_is = refl; new_is = refl }, bound))
    (record { said_is = refl; new_is = refl }, bound)

-- ## Events

-- the step is an own step at the event
abbrev pub IsStep : Line → LineState → Event → Step → Type 0
IsStep line v event step =
    OwnStep line v event step.turn.said step.turn.state step.why × IsWithinLine line step.turn.state.mark

abbrev pub IsMessageStep : Line → ℕ → TrainMessage → LineState → Step → Type 0
IsMessageStep line c m v step =
    Steps line v c m step.turn.said step.turn.state step.why × IsWithinLine line step.turn.state.mark

message_is : (line : Line) (c : ℕ) (m : TrainMessage) (v : LineState) (choice : Choice) (why : Option Reason)
    → silence line v c m ≡ why → IsWithinLine line v.mark
    → Valid (IsMessageStep line c m v) (message_step line c m v choice why)
message_is line c m v Listening why is bound = valid_allowed (IsMessageStep line c m v) (may_listen line c m.body why) _
    (λ so. (Steps.listened (ap (may_listen line c m.body) is ∙ so) refl refl refl, bound))
message_is line c m v choice (Some reason) is bound = (Steps.silent reason is refl refl refl, bound)
message_is line c m v choice None is bound =
    valid_then (Does line (Own line (hears c m v) c m m.body)) (IsMessageStep line c m v) _
    (own_turn line c m m.body (hears c m v) choice)
    (own_is line c m m.body (hears c m v) choice bound) (λ turn does. (Steps.heard is refl does.0, does.1))

pub own_step_is : (line : Line) (v : LineState) (event : Event) (choice : Choice) → IsWithinLine line v.mark
    → Valid (IsStep line v event) (own_step line v event choice)
own_step_is line v (Bytes c (Ok m)) choice bound =
    valid_when (IsStep line v (Bytes c (Ok m))) (is_centre line c) _ (λ so.
    valid_map (IsMessageStep line c m v) (IsStep line v (Bytes c (Ok m)))
    (message_step line c m v choice (silence line v c m))
    (message_is line c m v choice (silence line v c m) refl bound) (λ step does. ((so, does.0), does.1)))
own_step_is line v (Bytes c (Err number)) choice bound = tt
own_step_is line v (Set c s) choice bound = valid_when (IsStep line v (Set c s)) (is_centre line c) _ (λ so.
    valid_then (Does line (Sets line v c s)) (IsStep line v (Set c s)) _ (set_turn line c s v) (set_is line c s v bound)
    (λ turn does. ((so, does.0, refl), does.1)))
own_step_is line v (Unset c s) choice bound = valid_when (IsStep line v (Unset c s)) (is_centre line c) _ (λ so.
    valid_then (Does line (Unsets line v c s)) (IsStep line v (Unset c s)) _ (unset_turn line c s v)
    (unset_is line c s v bound) (λ turn does. ((so, does.0, refl), does.1)))
own_step_is line v (Delivery from to number) choice bound = ((refl, refl, refl), bound)

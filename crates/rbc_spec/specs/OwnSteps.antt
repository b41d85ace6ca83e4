-- The own steps of the one line centre: a message of a train that is answered, a set, and an unset. Each is a relation,
-- since the line centre has a choice if the rules leave one.
use Rattle.std.specs.List.{list_any, range_with_len}
use Rattle.std.specs.Option.{option_map_or}
use Rattle.std.specs.Prelude.{[], if◌then◌else◌, ◌&&◌, ◌*◌, ◌++◌, ◌+◌, ◌-◌, ◌==◌, ◌||◌, ◌∷◌, ◌≡◌, ◌≤◌, ◌⊎◌, Bool, false}
use Rattle.std.specs.Prelude.{List, MatchBool, nat_le, nat_lt, None, not, Option, Some, true, ℕ}
use Rattle.rbc_spec.specs.Centre.{Closed, is_registrar_of, Opened, Phase, Up}
use Rattle.rbc_spec.specs.Line.{end, is_home, Line, start}
use Rattle.rbc_spec.specs.LineCentre.{At, change_mission, close_if_empty, free, Given, is_at, is_given_to, is_kept_for}
use Rattle.rbc_spec.specs.LineCentre.{is_mark_open, is_waiting, is_waiting_at, IsHand, Kept, LineMission, LineState}
use Rattle.rbc_spec.specs.LineCentre.{Mark, mark_all, Open, release, Said, saying_of, says, set_mission, Shut}
use Rattle.rbc_spec.specs.LineCentre.{supervises, told}
use Rattle.rbc_spec.specs.Maps.{put, put_pair}
use Rattle.rbc_spec.specs.Message.{Authority, DataAcknowledged, EndOfMission, InitiationOfSession, Report, Request}
use Rattle.rbc_spec.specs.Message.{SessionEstablished, ShorteningGranted, ShorteningRejected, StartOfMission}
use Rattle.rbc_spec.specs.Message.{SystemVersion, TerminationAcknowledged, TerminationOfSession, TrackBody}
use Rattle.rbc_spec.specs.Message.{TrainAccepted, TrainBody, TrainData, TrainMessage, TrainRejected, unknown_group}
use Rattle.rbc_spec.specs.Outcome.{Asked, Done, NotHome, Word}
use Rattle.rbc_spec.specs.Place.{covered, farthest, fit_place, group_start, has_room, is_cleared, Place, place_on}
use Rattle.rbc_spec.specs.SectionRuns.{all_of, most_in_hand, next_after, SectionRun, within}
use Rattle.rbc_spec.specs.Sections.{is_on, section_count}

-- one message is sent to a train, with these replies; the new state is `changed`, with that message counted
pub record Says (t c group : ℕ) (body : TrackBody) (words : List Word) (v changed : LineState) (said : Said)
    (new : LineState) : Type 0 where
  pub said_is : said ≡ record { sayings = saying_of t c group body v ∷ []; words = words }
  pub new_is : new ≡ says t c changed

-- only replies to the interlocking, and no message to a train
pub record Tells (words : List Word) (changed : LineState) (said : Said) (new : LineState) : Type 0 where
  pub said_is : said ≡ record { sayings = []; words = words }
  pub new_is : new ≡ changed

-- no message and no reply
abbrev pub SaysNothing : LineState → Said → LineState → Type 0
SaysNothing changed = Tells [] changed

-- ## Sessions

-- drops the train's pending request to shorten, if centre c supervises the train
abbrev pub without_proposal : ℕ → LineMission → LineMission
without_proposal c m = if is_at c m.supervisor then record m { proposal = None } else m

-- A session ends. A pending request to shorten is dropped. So is a start of mission that waits here, and its sections
-- are freed. The mark of a given section does not change.
-- Rules: LC-3
abbrev pub session_ends : Line → ℕ → ℕ → LineState → LineState
session_ends line t c v =
    change_mission t (without_proposal c)
    (record (free (is_waiting_at line v t c) v) { wait = put_pair v.wait t c None })

abbrev pub with_phase : ℕ → ℕ → Phase → LineState → LineState
with_phase t c phase v = record v { phase = put_pair v.phase t c phase }

-- ## Start of mission

-- all sections of the place are open, and of home c
abbrev pub may_start : Line → LineState → ℕ → Place → Bool
may_start line v c place = all_of (λ s. is_home line c s && is_mark_open (v.mark s)) (covered line place)

abbrev pub begun_at : ℕ → Place → LineMission
begun_at c place = record { place = place; has_data = false; is_ended = false; proposal = None; supervisor = At c }

-- the sections of the place are given to the train, and its mission begins
abbrev pub begins : Line → ℕ → ℕ → Place → LineState → LineState
begins line t c place v = set_mission t (Some (begun_at c place)) (mark_all (within (covered line place)) (Given t) v)

abbrev pub restarted : ℕ → Place → LineState → LineState
restarted t place v =
    change_mission t (λ m. record m { place = place; has_data = false; is_ended = false; proposal = None }) v

-- the sections of the place are kept for the train, and its start waits
abbrev pub waits : Line → ℕ → ℕ → Place → LineState → LineState
waits line t c place v =
    record (mark_all (within (covered line place)) (Kept t) v) { wait = put_pair v.wait t c (Some place) }

abbrev pub Rejects : ℕ → ℕ → LineState → Said → LineState → Type 0
Rejects t c v = Says t c unknown_group TrainRejected [] v v

abbrev pub Accepts : ℕ → ℕ → LineState → LineState → Said → LineState → Type 0
Accepts t c v changed = Says t c unknown_group TrainAccepted [] v changed

-- A start at the registrar is accepted only if the train has no mission. It may be rejected in any case, since the
-- right may be elsewhere.
-- Rules: LC-4
abbrev pub StartsHere : Line → ℕ → ℕ → Place → LineState → Said → LineState → Type 0
StartsHere line t c place v said new =
    ((v.mission t ≡ None) × Accepts t c v (begins line t c place v) said new) ⊎ Rejects t c v said new

-- a start of a train that centre c supervises is accepted if and only if its place covers only sections of the hand
abbrev pub Restarts : Line → ℕ → ℕ → Place → LineState → Said → LineState → Type 0
Restarts line t c place v said new =
    MatchBool (all_of (λ s. is_given_to t (v.mark s)) (covered line place))
    (Accepts t c v (restarted t place v) said new) (Rejects t c v said new)

-- Any other start is rejected if a section of its place is not open here. If all are open, the registrar accepts or
-- rejects it, and another centre lets it wait.
-- Rules: LC-4
abbrev pub StartsNew : Line → ℕ → ℕ → Place → LineState → Said → LineState → Type 0
StartsNew line t c place v said new =
    MatchBool (may_start line v c place)
    (MatchBool (is_registrar_of line c t) (StartsHere line t c place v said new)
    (SaysNothing (waits line t c place v) said new))
    (Rejects t c v said new)

abbrev pub Starts : Line → ℕ → ℕ → Option Place → LineState → Said → LineState → Type 0
Starts line t c None v said new = Rejects t c v said new
Starts line t c (Some place) v said new =
    MatchBool (supervises v c t) (Restarts line t c place v said new) (StartsNew line t c place v said new)

-- ## Request

-- The reasons why the next section may not extend the hand at centre c. It is not on the track. It is not open with
-- home c. The hand has its 32 sections. Or the section ends farther from the group than L_ENDSECTION can name.
-- Rules: LC-5
pub data Ends (line : Line) (v : LineState) (c : ℕ) (place : Place) (hand : SectionRun) : Type 0 where
  off_track : is_on line place.track (next_after hand) ≡ false → Ends line v c place hand
  not_free : (is_home line c (next_after hand) && is_mark_open (v.mark (next_after hand))) ≡ false
      → Ends line v c place hand
  full : hand.count ≡ most_in_hand → Ends line v c place hand
  too_far : has_room line place (end line (next_after hand)) ≡ false → Ends line v c place hand

-- A section may be given to the train in two cases. It is open with home c, or it is kept for the train and no start
-- waits for it.
-- Rules: LC-5
abbrev pub may_be_given : Line → LineState → ℕ → ℕ → ℕ → Bool
may_be_given line v c t s =
    (is_home line c s && is_mark_open (v.mark s)) || (is_kept_for t (v.mark s) && not (is_waiting line v t s))

-- The hand is extended by a run that follows it at once, and it ends for one of the reasons `Ends`. The train gets the
-- authority for the extended hand.
-- Rules: LC-5
pub record Extends (line : Line) (v : LineState) (t c : ℕ) (place : Place) (said : Said)
    (new : LineState) : Type 0 where
  pub hand : SectionRun
  pub count : ℕ
  pub is_hand : IsHand v t hand
  pub each : all_of (λ s. may_be_given line v c t s && is_on line place.track s)
      (record { first = next_after hand; count = count }) ≡ true
  pub ends : Ends line v c place (record { first = hand.first; count = hand.count + count })
  pub room : hand.count + count ≤ most_in_hand
  pub within_reach : end line (next_after hand + count - 1) ≤ group_start line place + farthest
  pub says_it : Says t c place.group (Authority (end line (next_after hand + count - 1) - group_start line place)) [] v
      (change_mission t (λ m. record m { place = place })
      (mark_all (within (record { first = next_after hand; count = count })) (Given t) v)) said new

-- ## Report, end of mission, shortening

-- the section is in the hand, and the place clears it
abbrev pub is_cleared_of : Line → LineState → ℕ → Place → ℕ → Bool
is_cleared_of line v t place s = is_given_to t (v.mark s) && is_cleared line place s

-- the mission gets the new place, and the sections that it clears stop being given
-- Rules: LC-6, LC-9
abbrev pub reported : Line → ℕ → ℕ → Place → LineState → LineState
reported line t c place v =
    close_if_empty line t (change_mission t (λ m. record m { place = place })
    (release line c t (is_cleared_of line v t place) v))

-- the replies for sections that stop being given and are freed
abbrev pub release_words : Line → ℕ → (ℕ → Bool) → LineState → List Word
release_words line c is_released v = told line (λ s. is_released s && is_home line c s) v

-- the train has reached its hand: a section of the hand starts before the front
abbrev pub has_reached : Line → LineState → ℕ → Place → Bool
has_reached line v t place =
    list_any (λ s. is_given_to t (v.mark s) && nat_lt (10 * start line s) place.front)
    (range_with_len 0 (section_count line))

-- the section is in the hand and ahead of the train: it starts at the front or past it
abbrev pub is_ahead_of : Line → LineState → ℕ → Place → ℕ → Bool
is_ahead_of line v t place s = is_given_to t (v.mark s) && nat_le place.front (10 * start line s)

-- if the train has reached its hand, the sections ahead of the train stop being given
-- Rules: LC-8, LC-9
abbrev pub stopped : Line → ℕ → ℕ → Place → LineState → LineState
stopped line t c place v = if has_reached line v t place then release line c t (is_ahead_of line v t place) v else v

abbrev pub stopping_words : Line → ℕ → ℕ → Place → LineState → List Word
stopping_words line t c place v =
    if has_reached line v t place then release_words line c (is_ahead_of line v t place) v else []

abbrev pub ended : ℕ → LineState → LineState
ended t v = change_mission t (λ m. record m { is_ended = true; proposal = None }) v

-- the section is in the hand, and in advance of the last section that is kept
abbrev pub is_cut_of : LineState → ℕ → ℕ → ℕ → Bool
is_cut_of v t last_kept s = is_given_to t (v.mark s) && nat_lt last_kept s

abbrev pub without_ask : ℕ → LineState → LineState
without_ask t v = change_mission t (λ m. record m { proposal = None }) v

-- A granted shortening cuts the hand, if the report has a place and its front is not past the proposed end.
-- Rules: LC-7, LC-9
abbrev pub shortened : Line → ℕ → ℕ → Option Place → ℕ → LineState → LineState
shortened line t c None last_kept v = v
shortened line t c (Some place) last_kept v =
    if nat_le place.front (10 * end line last_kept)
    then close_if_empty line t (release line c t (is_cut_of v t last_kept) v) else v

abbrev pub shortening_words : Line → ℕ → ℕ → Option Place → ℕ → LineState → List Word
shortening_words line t c None last_kept v = []
shortening_words line t c (Some place) last_kept v =
    if nat_le place.front (10 * end line last_kept) then release_words line c (is_cut_of v t last_kept) v else []

-- ## The own step of a message that is not silent, from the state v in which its stamp is recorded

abbrev pub track_of : LineState → ℕ → ℕ
track_of v t = option_map_or (λ m. m.place.track) (v.mission t) 0

abbrev pub last_kept_of : LineState → ℕ → ℕ
last_kept_of v t = option_map_or (λ m. option_map_or (λ p. p.last_kept) m.proposal 0) (v.mission t) 0

-- The end of a mission is first a report, if it has a place. At standstill the sections ahead stop being given too.
-- Then the mission is ended.
abbrev pub Ending : Line → ℕ → ℕ → Bool → Option Place → LineState → Said → LineState → Type 0
Ending line t c is_still None v said new = SaysNothing (ended t v) said new
Ending line t c false (Some place) v said new =
    Tells (release_words line c (is_cleared_of line v t place) v) (ended t (reported line t c place v)) said new
Ending line t c true (Some place) v said new =
    let there = reported line t c place v in
    Tells (release_words line c (is_cleared_of line v t place) v ++ stopping_words line t c place there)
    (ended t (stopped line t c place there)) said new

abbrev pub Own : Line → LineState → ℕ → TrainMessage → TrainBody → Said → LineState → Type 0
Own line v c m InitiationOfSession said new =
    Says m.nid_engine c unknown_group SystemVersion (told line (is_waiting_at line v m.nid_engine c) v) v
    (with_phase m.nid_engine c Opened (session_ends line m.nid_engine c v)) said new
Own line v c m TerminationOfSession said new =
    Says m.nid_engine c unknown_group TerminationAcknowledged (told line (is_waiting_at line v m.nid_engine c) v) v
    (with_phase m.nid_engine c Closed (session_ends line m.nid_engine c v)) said new
Own line v c m SessionEstablished said new = SaysNothing (with_phase m.nid_engine c Up v) said new
Own line v c m (StartOfMission is_valid position) said new =
    Starts line m.nid_engine c (fit_place line is_valid position) v said new
Own line v c m (TrainData position) said new =
    Says m.nid_engine c unknown_group (DataAcknowledged m.t_train) [] v
    (change_mission m.nid_engine (λ n. record n { has_data = true }) v) said new
Own line v c m (Request position) said new =
    (place : Place) × (place_on line (track_of v m.nid_engine) position ≡ Some place)
    × Extends line v m.nid_engine c place said new
Own line v c m (Report position) said new =
    (place : Place) × (place_on line (track_of v m.nid_engine) position ≡ Some place)
    × Tells (release_words line c (is_cleared_of line v m.nid_engine place) v)
    (reported line m.nid_engine c place v) said new
Own line v c m (ShorteningGranted stamp position) said new =
    Tells (shortening_words line m.nid_engine c (place_on line (track_of v m.nid_engine) position)
    (last_kept_of v m.nid_engine) v)
    (shortened line m.nid_engine c (place_on line (track_of v m.nid_engine) position) (last_kept_of v m.nid_engine)
    (without_ask m.nid_engine v)) said new
Own line v c m (ShorteningRejected stamp position) said new = SaysNothing (without_ask m.nid_engine v) said new
Own line v c m (EndOfMission position) said new =
    Ending line m.nid_engine c (position.v_train == 0) (place_on line (track_of v m.nid_engine) position) v said new

-- ## Set and unset

abbrev pub is_unused_mark : Mark → Bool
is_unused_mark Shut = true
is_unused_mark Open = true
is_unused_mark m = false

abbrev pub set_mark : ℕ → Mark → LineState → LineState
set_mark s mark v = record v { mark = put v.mark s mark; wish = put v.wish s false }

abbrev pub wished_back : ℕ → Bool → LineState → LineState
wished_back s wish v = record v { wish = put v.wish s wish }

-- Rules: LC-12
abbrev pub Sets : Line → LineState → ℕ → ℕ → Said → LineState → Type 0
Sets line v c s said new =
    MatchBool (is_home line c s)
    (Tells (Done s ∷ []) (if is_unused_mark (v.mark s) then set_mark s Open v else wished_back s false v) said new)
    (Tells (NotHome s ∷ []) v said new)

-- Rules: LC-12
abbrev pub Unsets : Line → LineState → ℕ → ℕ → Said → LineState → Type 0
Unsets line v c s said new =
    MatchBool (is_home line c s)
    (MatchBool (is_unused_mark (v.mark s)) (Tells (Done s ∷ []) (set_mark s Shut v) said new)
    (Tells (Asked s ∷ []) (wished_back s true v) said new))
    (Tells (NotHome s ∷ []) v said new)

-- The step of a centre: its event, its stamp, its refusals, the answer of a link, and the numbers of the frames.
use Rattle.std.specs.List.{find, list_any, range_with_len}
use Rattle.std.specs.Option.{option_map_or}
use Rattle.std.specs.Prelude.{[], if◌then◌else◌, ◌&&◌, ◌*◌, ◌++◌, ◌+◌, ◌-◌, ◌==◌, ◌||◌, ◌∷◌, Bool, Err, false, is_none}
use Rattle.std.specs.Prelude.{is_some, length, List, max, nat_le, nat_lt, None, not, Ok, Option, Result, Some, true, ℕ}
use Rattle.rbc_spec.specs.Acts.{◌>>◌, Act, become, hear, propose_if_so, Reply, rest}
use Rattle.rbc_spec.specs.Centre.{Centre, Entry, is_closed, is_expected, is_unused, is_up, Mission, Open, Out, Shut}
use Rattle.rbc_spec.specs.Centre.{Taken}
use Rattle.rbc_spec.specs.Frame.{Body, Frame, last_stamp, RouteWithdraw}
use Rattle.rbc_spec.specs.Line.{end, is_home, is_linked, Line, train_number}
use Rattle.rbc_spec.specs.Links.{received}
use Rattle.rbc_spec.specs.Maps.{has, put}
use Rattle.rbc_spec.specs.Message.{is_stale, Report, Request, SessionEstablished, ShorteningGranted, ShorteningRejected}
use Rattle.rbc_spec.specs.Message.{StartOfMission, TrainBody, TrainMessage}
use Rattle.rbc_spec.specs.Outcome.{Asked, Done, Early, ForeignEngine, MissionEnded, Next, NoLink, NoPlace, NoSession}
use Rattle.rbc_spec.specs.Outcome.{NotHome, NoTrainData, NotSupervised, Old, Outcome, ProposalPending, Reason}
use Rattle.rbc_spec.specs.Outcome.{reasons_of, StaleStamp, Taken as LinkAnswer, Unasked, WrongPhase}
use Rattle.rbc_spec.specs.Place.{extent, has_front, has_room, place_on, Position}
use Rattle.rbc_spec.specs.Rules.{answered, tell}
use Rattle.rbc_spec.specs.SectionRuns.{next_after}
use Rattle.rbc_spec.specs.Sections.{section_count}

-- an event of a centre: a message of a train, a set or an unset of the interlocking, or a frame from another centre
pub data Event : Type 0 where
  Train : (m : TrainMessage) → Event
  Set : (s : ℕ) → Event
  Unset : (s : ℕ) → Event
  Deliver : (from : ℕ) (frame : Frame) → Event

-- ## Silence

abbrev pub mission_has : (Mission → Bool) → Option Mission → Bool
mission_has test mission = has test mission

-- A report concerns a centre without a mission of the train if it expects the train, and its front is in a home
-- section.
-- Rules: SI-8
abbrev pub is_awaited : Line → ℕ → Centre → ℕ → Position → Bool
is_awaited line c k t position = is_expected line k t
    && has (λ place. list_any (λ s. is_home line c s && has_front line place s) (range_with_len 0 (section_count line)))
    (extent line position)

-- A request has a place on the mission's track. The front is not past the end of the hand, and that end is within the
-- range of L_ENDSECTION.
-- Rules: SI-7
abbrev pub may_request : Line → Mission → Position → Bool
may_request line m position = option_map_or
    (λ place. nat_le place.front (10 * end line (next_after m.hand - 1))
    && has_room line place (end line (next_after m.hand - 1)))
    (place_on line m.place.track position) false

-- the train is not supervised here, and the message is not a report that concerns this centre
abbrev pub is_unsupervised : Line → ℕ → Centre → ℕ → TrainBody → Bool
is_unsupervised line c k t (Report position) = is_none (k.mission t) && not (is_awaited line c k t position)
is_unsupervised line c k t body = is_none (k.mission t)

-- a request, or a report to the supervisor, without a place at which it can be taken
-- Rules: SI-6
abbrev pub has_no_place : Line → Option Mission → TrainBody → Bool
has_no_place line mission (Request position) = mission_has (λ m. not (may_request line m position)) mission
has_no_place line mission (Report position) = mission_has (λ m. is_none (place_on line m.place.track position)) mission
has_no_place line mission body = false

-- The session is in the wrong phase for the message. For message 159 the session is established already. For message
-- 157 it is not established, or a start of mission waits. For others it is not established.
abbrev pub is_out_of_phase : Centre → ℕ → TrainBody → Bool
is_out_of_phase k t SessionEstablished = is_up (k.phase t)
is_out_of_phase k t (StartOfMission is_valid position) = not (is_up (k.phase t)) || is_some (k.wait t)
is_out_of_phase k t body = not (is_up (k.phase t))

-- the message answers a request to shorten that is not pending
abbrev pub is_unasked : Option Mission → TrainBody → Bool
is_unasked mission (ShorteningGranted stamp position) =
    not (mission_has (λ m. has (λ p. p.stamp == stamp) m.proposal) mission)
is_unasked mission (ShorteningRejected stamp position) =
    not (mission_has (λ m. has (λ p. p.stamp == stamp) m.proposal) mission)
is_unasked mission body = false

-- the reason holds of the message
-- Rules: SI-3
abbrev pub holds : Line → ℕ → Centre → TrainMessage → Reason → Bool
holds line c k m StaleStamp = is_stale m.t_train (k.heard m.nid_engine)
holds line c k m NoSession = is_closed (k.phase m.nid_engine)
holds line c k m ForeignEngine = is_none (train_number line m.nid_engine)
holds line c k m NoPlace = has_no_place line (k.mission m.nid_engine) m.body
holds line c k m NotSupervised = is_unsupervised line c k m.nid_engine m.body
holds line c k m NoTrainData = mission_has (λ n. not n.has_data) (k.mission m.nid_engine)
holds line c k m ProposalPending = mission_has (λ n. is_some n.proposal) (k.mission m.nid_engine)
holds line c k m Unasked = is_unasked (k.mission m.nid_engine) m.body
holds line c k m MissionEnded = mission_has (λ n. n.is_ended) (k.mission m.nid_engine)
holds line c k m WrongPhase = is_out_of_phase k m.nid_engine m.body

-- Rules: SI-1
abbrev pub silence : Line → ℕ → Centre → TrainMessage → Option Reason
silence line c k m = find (holds line c k m) (reasons_of m.body)

-- ## The interlocking

-- asks each other centre for a section that is lent; the home does not know which centre has it
-- Rules: IL-5
abbrev pub withdraw : Line → ℕ → ℕ → ℕ → Act
withdraw line c t s k =
    record {
      state = k;
      frames = λ d. if is_linked line c d then RouteWithdraw t s ∷ []
          else [];
      sayings = [];
      words = [];
    }

-- A section in use is wished back. If it is here, a request to shorten is sent, if it may be. If it is lent, the other
-- centres are asked for it.
-- Rules: IL-4, IL-5
abbrev pub wished : Line → ℕ → ℕ → Entry → Act
wished line c s (Taken t) = propose_if_so line t s
wished line c s (Out t) = withdraw line c t s
wished line c s e = rest

abbrev pub make : ℕ → Entry → Bool → Act
make s entry wish = become (λ k. record k { book = put k.book s entry; wish = put k.wish s wish })

-- Rules: IL-1, IL-7
abbrev pub set : Line → ℕ → ℕ → Act
set line c s k =
    if not (is_home line c s) then tell (NotHome s) k
    else (become (λ j. record j { wish = put j.wish s false })
    >> ((if is_unused (k.book s) then make s Open false else rest) >> tell (Done s))) k

-- Rules: IL-2, IL-3, IL-6, IL-7
abbrev pub unset : Line → ℕ → ℕ → Act
unset line c s k =
    if not (is_home line c s) then tell (NotHome s) k
    else (if is_unused (k.book s) then (make s Shut false >> tell (Done s))
    else ((become (λ j. record j { wish = put j.wish s true }) >> tell (Asked s)) >> wished line c s (k.book s))) k

-- ## Links

-- the answer of a link to frame n, after `count` frames were taken: only frame `count + 1` is the next
-- Rules: LK-3
abbrev pub offered : ℕ → ℕ → LinkAnswer
offered count n = if n == count + 1 then Next else (if nat_le n count then Old else Early)

abbrev pub link_answer : Line → ℕ → Centre → ℕ → Frame → LinkAnswer
link_answer line c k d f = if is_linked line c d then offered (k.taken d) f.number else NoLink

-- only the next frame of a link is taken; others change nothing
-- Rules: LK-3
abbrev pub taken_by : Line → ℕ → ℕ → Frame → LinkAnswer → Act
taken_by line c d f Next = become (λ k. record k { taken = put k.taken d f.number }) >> received line c d f.body
taken_by line c d f answer = rest

-- ## The step

-- an answered message: its stamp is recorded, then its rule is applied
-- Rules: SI-4
abbrev pub hear_and_answer : Line → ℕ → TrainMessage → Act
hear_and_answer line c m = hear m >> answered line c m m.body

-- the effect of an event: its reply, the answer of the link, and the reason if it is a silent message
pub record Effect : Type 0 where
  pub reply : Reply
  pub link : Option LinkAnswer
  pub silence : Option Reason

abbrev pub effect : Line → ℕ → Centre → Event → Effect
effect line c k (Train m) = option_map_or
    (λ why. record { reply = rest k; link = None; silence = Some why })
    (silence line c k m)
    (record { reply = hear_and_answer line c m k; link = None; silence = None })
effect line c k (Set s) = record { reply = set line c s k; link = None; silence = None }
effect line c k (Unset s) = record { reply = unset line c s k; link = None; silence = None }
effect line c k (Deliver d f) =
    let answer = link_answer line c k d f
    in record { reply = taken_by line c d f answer k; link = Some answer; silence = None }

-- the stamp of a step: one above the last; for a frame, one above the greater of the last and the frame's stamp
-- Rules: ST-1
abbrev pub stamp_of : Centre → Event → ℕ
stamp_of k (Deliver d f) = max k.clock f.stamp + 1
stamp_of k event = k.clock + 1

-- some link has fewer than four of its 65 536 numbers left
abbrev pub has_full_link : Line → ℕ → Centre → Bool
has_full_link line c k =
    list_any (λ d. is_linked line c d && nat_lt 65532 (length (k.sent d))) (range_with_len 0 (length line.centres))

-- why a step is refused: its stamp would pass the greatest one, or a link is full
pub data Refusal : Type 0 where
  ClockEnd : Refusal
  LinkFull : Refusal

-- Rules: ST-2, ST-3
abbrev pub refusal : Line → ℕ → Centre → Event → Option Refusal
refusal line c k event =
    if nat_lt last_stamp (stamp_of k event) then Some ClockEnd
    else (if has_full_link line c k then Some LinkFull else None)

-- the bodies as frames, numbered after those sent before, with the stamp of the step
abbrev pub numbered : ℕ → ℕ → List Body → List Frame
numbered stamp count [] = []
numbered stamp count (body ∷ bodies) =
    record { number = count + 1; stamp = stamp; body = body } ∷ numbered stamp (count + 1) bodies

-- Rules: LK-4
abbrev pub frames_of : ℕ → Centre → Reply → ℕ → List Frame
frames_of stamp k reply d = numbered stamp (length (k.sent d)) (reply.frames d)

abbrev pub outcome_of : ℕ → Centre → Effect → Outcome
outcome_of stamp k e = record {
  stamp = stamp;
  sayings = e.reply.sayings;
  frames = frames_of stamp k e.reply;
  words = e.reply.words;
  link = e.link;
  silence = e.silence;
}

abbrev pub state_after : ℕ → Centre → Effect → Centre
state_after stamp k e = record (e.reply.state) { sent = λ d. k.sent d ++ frames_of stamp k e.reply d }

-- the clock shows the stamp of the step
abbrev pub ticked : ℕ → Centre → Centre
ticked stamp k = record k { clock = stamp }

-- the outcome and the new state of a step that is not refused
abbrev pub taken : Line → ℕ → Event → Centre → Outcome × Centre
taken line c event k =
    let stamp = stamp_of k event in
    let e = effect line c (ticked stamp k) event in
    (outcome_of stamp k e, state_after stamp k e)

-- Rules: ST-4
unfoldable pub step : Line → ℕ → Event → Centre → Result (Outcome × Centre) Refusal
step line c event k = option_map_or (λ why. Err why) (refusal line c k event) (Ok (taken line c event k))

-- The runs of the one line centre.
use Rattle.std.specs.List.{find, list_all, list_any, range_with_len}
use Rattle.std.specs.Option.{option_map_or}
use Rattle.std.specs.Prelude.{[], ◌&&◌, ◌*◌, ◌+◌, ◌<◌, ◌==◌, ◌||◌, ◌∷◌, ◌≡◌, ◌⊎◌, Bool, Err, false, is_none, is_some}
use Rattle.std.specs.Prelude.{List, nat_le, None, not, Ok, Option, slice_get, Some, true, ℕ}
use Rattle.rbc_spec.specs.Centre.{is_closed, is_up}
use Rattle.rbc_spec.specs.Line.{end, is_centre, is_home, Line, train_number}
use Rattle.rbc_spec.specs.LineCentre.{hears, is_at, is_given_to, LineMission, LineState, nothing, Said}
use Rattle.rbc_spec.specs.Maps.{has}
use Rattle.rbc_spec.specs.Message.{is_stale, Report, Request, SessionEstablished, ShorteningGranted, ShorteningRejected}
use Rattle.rbc_spec.specs.Message.{StartOfMission, TrainBody, TrainMessage}
use Rattle.rbc_spec.specs.Outcome.{ForeignEngine, MissionEnded, NoPlace, NoSession, NoTrainData, NotSupervised, Outcome}
use Rattle.rbc_spec.specs.Outcome.{ProposalPending, Reason, reasons_of, StaleStamp, Told, Unasked, Word, WrongPhase}
use Rattle.rbc_spec.specs.OwnSteps.{Own, Sets, Unsets}
use Rattle.rbc_spec.specs.Place.{extent, has_front, has_room, place_on, Position}
use Rattle.rbc_spec.specs.Quiet.{both, is_of_centre, Quiet, TakesAll}
use Rattle.rbc_spec.specs.Sections.{section_count}
use Rattle.rbc_spec.specs.World.{Answer, Answered, Bytes, centre_of, Delivery, Event, Fault, NoCentre, NotSent, Set}
use Rattle.rbc_spec.specs.World.{Unset}

-- ## Reasons of silence, as the line's state has them

-- centre c supervises the train, and the mission passes the test
abbrev pub has_here : LineState → ℕ → ℕ → (LineMission → Bool) → Bool
has_here v c t test = has (λ m. is_at c m.supervisor && test m) (v.mission t)

-- the front of the report's place is in a section of home c
abbrev pub has_front_at : Line → ℕ → Position → Bool
has_front_at line c position =
    has (λ place. list_any (λ s. is_home line c s && has_front line place s) (range_with_len 0 (section_count line)))
    (extent line position)

-- the last section of the train's hand, if the hand has any
abbrev pub last_of_hand : Line → LineState → ℕ → Option ℕ
last_of_hand line v t =
    find (λ s. is_given_to t (v.mark s) && not (is_given_to t (v.mark (s + 1)))) (range_with_len 0 (section_count line))

-- The report has a place on the mission's track. The front is not past the end of the hand, and that end is within the
-- range of L_ENDSECTION.
abbrev pub may_request_at : Line → LineState → ℕ → LineMission → Position → Bool
may_request_at line v t m position = option_map_or
    (λ place. has (λ s. nat_le place.front (10 * end line s) && has_room line place (end line s))
    (last_of_hand line v t))
    (place_on line m.place.track position) false

-- the answer names the pending request to shorten
abbrev pub answers_it : ℕ → LineMission → Bool
answers_it stamp m = has (λ p. p.stamp == stamp) m.proposal

-- The reason holds of a message at centre c. For a report to a centre that does not supervise the train, NotSupervised
-- holds here in any case; `may_listen` is the exception to it.
abbrev pub holds : Line → LineState → ℕ → TrainMessage → TrainBody → Reason → Bool
holds line v c m body StaleStamp = is_stale m.t_train (v.heard m.nid_engine c)
holds line v c m body NoSession = is_closed (v.phase m.nid_engine c)
holds line v c m body ForeignEngine = is_none (train_number line m.nid_engine)
holds line v c m SessionEstablished WrongPhase = is_up (v.phase m.nid_engine c)
holds line v c m (StartOfMission is_valid position) WrongPhase =
    not (is_up (v.phase m.nid_engine c)) || is_some (v.wait m.nid_engine c)
holds line v c m body WrongPhase = not (is_up (v.phase m.nid_engine c))
holds line v c m body NotSupervised = not (has_here v c m.nid_engine (λ n. true))
holds line v c m (Request position) NoPlace =
    has_here v c m.nid_engine (λ n. not (may_request_at line v m.nid_engine n position))
holds line v c m (Report position) NoPlace =
    has_here v c m.nid_engine (λ n. is_none (place_on line n.place.track position))
holds line v c m body NoPlace = false
holds line v c m body NoTrainData = has_here v c m.nid_engine (λ n. not n.has_data)
holds line v c m body ProposalPending = has_here v c m.nid_engine (λ n. is_some n.proposal)
holds line v c m (ShorteningGranted stamp position) Unasked = not (has_here v c m.nid_engine (answers_it stamp))
holds line v c m (ShorteningRejected stamp position) Unasked = not (has_here v c m.nid_engine (answers_it stamp))
holds line v c m body Unasked = false
holds line v c m body MissionEnded = has_here v c m.nid_engine (λ n. n.is_ended)

-- Rules: LC-16
abbrev pub silence : Line → LineState → ℕ → TrainMessage → Option Reason
silence line v c m = find (holds line v c m m.body) (reasons_of m.body)

-- A report that would be silent for this reason may be accepted nevertheless. If its front is in a section of home c,
-- the line centre may listen to a train that it does not supervise at c.
-- Rules: LC-16
abbrev pub may_listen : Line → ℕ → TrainBody → Option Reason → Bool
may_listen line c (Report position) (Some NotSupervised) = has_front_at line c position
may_listen line c body reason = false

-- ## Pieces

-- The own step of a message. `silent`: it has this reason, and nothing changes. `heard`: it is answered. `listened`:
-- only its stamp is recorded.
pub data Steps (line : Line) (v : LineState) (c : ℕ) (m : TrainMessage) (said : Said) (new : LineState)
    (why : Option Reason) : Type 0 where
  silent : (reason : Reason) → silence line v c m ≡ Some reason → why ≡ Some reason → said ≡ nothing → new ≡ v
      → Steps line v c m said new why
  heard : silence line v c m ≡ None → why ≡ None → Own line (hears c m v) c m m.body said new
      → Steps line v c m said new why
  listened : may_listen line c m.body (silence line v c m) ≡ true → why ≡ None → said ≡ nothing → new ≡ hears c m v
      → Steps line v c m said new why

-- the own step of an event; that of a delivery changes nothing
abbrev pub OwnStep : Line → LineState → Event → Said → LineState → Option Reason → Type 0
OwnStep line v (Bytes c (Ok m)) said new why = (is_centre line c ≡ true) × Steps line v c m said new why
OwnStep line v (Set c s) said new why = (is_centre line c ≡ true) × Sets line v c s said new × (why ≡ None)
OwnStep line v (Unset c s) said new why = (is_centre line c ≡ true) × Unsets line v c s said new × (why ≡ None)
OwnStep line v (Delivery from to number) said new why = (said ≡ nothing) × (new ≡ v) × (why ≡ None)
OwnStep line v event said new why = ⊥

-- sections are reported back in the order of their numbers
-- Rules: LC-17
abbrev pub TellsInOrder : List Word → Type 0
TellsInOrder words =
    (i j s e : ℕ) → i < j → slice_get words i ≡ Some (Told s) → slice_get words j ≡ Some (Told e) → s < e

-- The piece of an event: its own step, then quiet steps of the centre at which it happens. No quiet step follows a
-- silent message. The messages and replies of the outcome are those of the piece, and sections are reported back in the
-- order of their numbers. The piece of a delivery consists only of quiet steps.
-- Rules: LC-17, LC-18
pub record Piece (line : Line) (v : LineState) (event : Event) (outcome : Outcome) (new : LineState) : Type 0 where
  pub own : Said
  pub mid : LineState
  pub quiets : List Quiet
  pub later : Said
  pub own_step : OwnStep line v event own mid outcome.silence
  pub quiet_steps : TakesAll line mid quiets later new
  pub own_centre : list_all (is_of_centre line (centre_of event)) quiets ≡ true
  pub none_if_silent : (outcome.silence ≡ None) ⊎ (quiets ≡ [])
  pub in_order : TellsInOrder outcome.words
  pub says : record { sayings = outcome.sayings; words = outcome.words } ≡ both own later

-- From state v the one line centre may give this answer to the event, and be in state `new` after it. Nothing changes
-- if the bytes spell no message, the centre is not of the line, or the frame was never sent.
-- Rules: LC-18
abbrev pub Goes : Line → LineState → Event → Answer → LineState → Type 0
Goes line v event (Answered outcome) new = Piece line v event outcome new
Goes line v (Bytes c (Err number)) (Fault n) new = (is_centre line c ≡ true) × (n ≡ number) × (new ≡ v)
Goes line v (Bytes c read) NoCentre new = (is_centre line c ≡ false) × (new ≡ v)
Goes line v (Set c s) NoCentre new = (is_centre line c ≡ false) × (new ≡ v)
Goes line v (Unset c s) NoCentre new = (is_centre line c ≡ false) × (new ≡ v)
Goes line v (Delivery from to number) NotSent new = new ≡ v
Goes line v event answer new = ⊥

-- the answers to the events, in order, lead from state v to state `new`
-- Rules: LC-19
abbrev pub Run : Line → LineState → List Event → List Answer → LineState → Type 0
Run line v [] [] new = new ≡ v
Run line v (event ∷ events) (answer ∷ answers) new =
    (mid : LineState) × Goes line v event answer mid × Run line mid events answers new
Run line v events answers new = ⊥

-- The small moves that each act of a centre is made of, and walks: one move after another.
use Rattle.std.proofs.Common.{[], ◌&&◌, ◌+◌, ◌==◌, ◌∷◌, ◌≡◌, Bool, false, if◌then◌else◌, List, max, None, Option, Some}
use Rattle.std.proofs.Common.{true, ℕ}
use Rattle.std.specs.Option.{option_map_or}
use Rattle.rbc_spec.specs.Acts.{begun}
use Rattle.rbc_spec.specs.Centre.{Centre, Expectation, Handing, is_free, is_registrar_of, Mission, Proposal}
use Rattle.rbc_spec.specs.Frame.{Announce, Body, carried_place, ReturnRight, RouteInfo, RouteReturn, Yield}
use Rattle.rbc_spec.specs.Frame.{YieldedPlace}
use Rattle.rbc_spec.specs.Line.{is_home, Line, next_centre, registrar}
use Rattle.rbc_spec.specs.Links.{is_of_line, is_wanted, may_take}
use Rattle.rbc_spec.specs.Maps.{has}
use Rattle.rbc_spec.specs.Message.{EndOfMission, Report, Request, ShorteningGranted, ShorteningRejected, StartOfMission}
use Rattle.rbc_spec.specs.Message.{TrainBody, TrainData, TrainMessage}
use Rattle.rbc_spec.specs.Place.{covered, fit_place, Place, place_on, Position}
use Rattle.rbc_spec.specs.Rules.{cleared, extended_by, extension}
use Rattle.rbc_spec.specs.SectionRuns.{all_of, is_empty, next_after, no_run, part_before, part_from, SectionRun, within}

-- The cause of a walk: an event of the interlocking, a train's message, or a frame of centre d. `Alone` is for a part
-- of a rule that is walked by itself.
pub data Cause : Type 0 where
  Alone : Cause
  Wish : Cause
  Message : (m : TrainMessage) → Cause
  Came : (d : ℕ) (body : Body) → Cause

-- The permissions of an event: to announce a handover, to reply to the interlocking, and to change the expectation of
-- another centre's train. With them are its train, the handover that it may yield, and its cause.
pub record May : Type 0 where
  pub announces : Bool
  pub speaks : Bool
  pub expects : Bool
  pub train : Option ℕ
  pub yields : Option Handing
  pub cause : Cause

abbrev pub still : ℕ → May
still t = record { announces = false; speaks = false; expects = false; train = Some t; yields = None; cause = Alone }

abbrev pub asking : ℕ → May
asking t = record { announces = true; speaks = false; expects = false; train = Some t; yields = None; cause = Alone }

abbrev pub speaking : ℕ → May
speaking t = record { announces = false; speaks = true; expects = false; train = Some t; yields = None; cause = Alone }

-- of a word of the interlocking
abbrev pub setting : May
setting = record { announces = false; speaks = true; expects = false; train = None; yields = None; cause = Wish }

-- the position of a report, if the message has one
abbrev pub position_of : TrainBody → Option Position
position_of (TrainData position) = Some position
position_of (Request position) = Some position
position_of (Report position) = Some position
position_of (ShorteningGranted stamp position) = Some position
position_of (ShorteningRejected stamp position) = Some position
position_of (EndOfMission position) = Some position
position_of (StartOfMission is_valid position) = Some position
position_of body = None

-- the position is that of the event's message; of a part by itself it is any
abbrev pub Reports : Cause → Position → Type 0
Reports (Message m) position = position_of m.body ≡ Some position
Reports Alone position = Unit {0}
Reports cause position = ⊥

-- a start is reported at the place
abbrev pub Starts : Line → Cause → Place → Type 0
Starts line cause place = (is_valid : Bool) × (position : Position) × Reports cause position
    × (fit_place line is_valid position ≡ Some place)

-- why centre d may get a report of a train that approaches a border: it is the next of a track
pub data IsAhead (line : Line) (c : ℕ) (may : May) (d : ℕ) : Type 0 where
  next_of : (track : ℕ) → next_centre line c track ≡ Some d → IsAhead line c may d
  by_itself : may.cause ≡ Alone → IsAhead line c may d

-- the stamp recorded for train t: that of its message, or the later of that of a Yield and the last
pub data Hears (may : May) (t : ℕ) (k : Centre) : Option ℕ → Type 0 where
  said_now : (m : TrainMessage) → may.cause ≡ Message m → Hears may t k (Some m.t_train)
  said_before : (d number time : ℕ) (has_data is_ended : Bool) (place : YieldedPlace) (hand : SectionRun)
      → may.cause ≡ Came d (Yield number t time has_data is_ended place hand)
      → Hears may t k (Some (option_map_or (max time) (k.heard t) time))

-- the expectation of centre d's train: a handover that d announces, or none
pub data Expects (may : May) (d t : ℕ) : Option Expectation → Type 0 where
  one_more : (number track : ℕ) → may.cause ≡ Came d (Announce number t track)
      → Expects may d t (Some (record { number = number; is_taking = false }))
  no_more : Expects may d t None

-- why a mission may begin at a place: its start waited for the right, or the sections of the place were free
pub data MayBegin (line : Line) (c : ℕ) (may : May) (t : ℕ) (was : Centre) (place : Place) : Type 0 where
  waited : was.wait t ≡ Some place → MayBegin line c may t was place
  all_free : Starts line may.cause place → all_of (is_free line c was) (covered line place) ≡ true
      → MayBegin line c may t was place

-- a new mission of train t, with the facts that are known of the state and of the event's start
pub data Turn (line : Line) (c : ℕ) (may : May) (was : Centre) (t : ℕ) (k : Centre) : Option Mission → Type 0 where
  begins : (place : Place) → MayBegin line c may t was place → k.mission t ≡ None
      → Turn line c may was t k (Some (begun line place))
  grows : (m : Mission) (place : Place) (position : Position) (j : Centre) → may.announces ≡ true → k.mission t ≡ Some m
      → Reports may.cause position → place_on line m.place.track position ≡ Some place
      → Turn line c may was t k
      (Some (extended_by (extension line c j (record m { place = place })) (record m { place = place })))
  clears : (m : Mission) (place : Place) (position : Position) → k.mission t ≡ Some m → Reports may.cause position
      → place_on line m.place.track position ≡ Some place → ((cleared line place m).count == m.hand.count) ≡ false
      → Turn line c may was t k
      (Some (record m { place = place; hand = part_from (next_after (cleared line place m)) m.hand }))
  cuts : (m n : Mission) (last_kept : ℕ) → k.mission t ≡ Some n
      → record n { proposal = None } ≡ record m { proposal = None }
      → ((part_from (last_kept + 1) m.hand).count == m.hand.count) ≡ false
      → Turn line c may was t k
      (Some (record m { hand = part_before (last_kept + 1) m.hand; pool = no_run; proposal = None }))
  comes : (d number time : ℕ) (carried : YieldedPlace) (place : Place) (hand : SectionRun) (has_data is_ended : Bool)
      → may.expects ≡ true → may_take line c was d number t place hand ≡ true
      → may.cause ≡ Came d (Yield number t time has_data is_ended carried hand) → carried_place carried ≡ Some place
      → Turn line c may was t k
      (Some (record {
        place = place;
        hand = hand;
        pool = no_run;
        has_data = has_data;
        is_ended = is_ended;
        proposal = None;
        handing = None;
      }))

-- a change of the mission of train t, if it has one
pub data Change (line : Line) (may : May) (was : Centre) (t : ℕ) (k : Centre) : (Mission → Mission) → Type 0 where
  no_proposal : Change line may was t k (λ m. record m { proposal = None })
  proposes : (p : Proposal) → Change line may was t k (λ m. record m { proposal = Some p })
  no_pool : Change line may was t k (λ m. record m { pool = no_run })
  less_pool : (s : ℕ) → Change line may was t k (λ m. record m { pool = part_before s m.pool })
  pools : (d : ℕ) (r : SectionRun) → k.route_ask t ≡ None → may.cause ≡ Came d (RouteInfo t r)
      → has (is_wanted line r) (k.mission t) ≡ true → Change line may was t k (λ m. record m { pool = r })
  data_known : Change line may was t k (λ m. record m { has_data = true })
  ends : Change line may was t k (λ m. record m { is_ended = true; proposal = None })
  restarts : (m : Mission) (place : Place) (is_valid : Bool) (position : Position) → k.mission t ≡ Some m
      → was.mission t ≡ Some m → Reports may.cause position → fit_place line is_valid position ≡ Some place
      → all_of (within m.hand) (covered line place) ≡ true
      → Change line may was t k
      (λ n. record n { place = place; has_data = false; is_ended = false; proposal = None })

-- Why a body may be sent to centre d by itself. Questions and the frames of a handover are sent together with a change
-- of the state (`asks_right`, `asks_route`, `announces`, `recalls`, `closes_handed`, `yields`). Answers are acts of
-- their own (`Answer`). Three bodies are sent to many centres at once (`returns`, `withdraws`, `takes_over`).
pub data MaySend (line : Line) (c : ℕ) (may : May) (d : ℕ) : Body → Type 0 where
  goes_back : (t : ℕ) → may.train ≡ Some t → is_registrar_of line c t ≡ false → registrar line t ≡ Some d
      → MaySend line c may d (ReturnRight t)
  goes_home : (t : ℕ) (r : SectionRun) → may.train ≡ Some t → is_empty r ≡ false → all_of (is_home line d) r ≡ true
      → may.cause ≡ Came d (RouteInfo t r) → MaySend line c may d (RouteReturn t r)

-- sections that were asked for, of one track of the line and each of home d
abbrev pub has_place_for_route : Line → ℕ → SectionRun → Option ℕ → Bool
has_place_for_route line d r asked =
    (has (λ first. first == r.first) asked && (is_of_line line r && is_home line d r.first))
    && all_of (is_home line d) r

-- the body is sent to a centre, if there is one
abbrev pub to_some : Option ℕ → Body → ℕ → List Body
to_some to body e = option_map_or (λ d. if e == d then body ∷ [] else []) to []

-- the mission with a handover, and with none
abbrev pub hand_to : ℕ → ℕ → Mission → Mission
hand_to d number m = record m { handing = Some (record { number = number; to = d }) }

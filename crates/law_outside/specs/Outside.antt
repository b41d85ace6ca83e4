-- The view of an observer outside the centres of a line. The observer sees the messages of trains and the answers to
-- them, and the events of the interlocking and the answers to those. No state of a centre occurs here, and no frame. A
-- message to a train never takes anything back from it. A message of a train takes back only a part that the train was
-- sent before it sent that message. "In advance of" is further on in the direction of travel, "in rear of" is further
-- back.
use Rattle.std.specs.Option.{option_map_or}
use Rattle.std.specs.Prelude.{[], ◌&&◌, ◌*◌, ◌++◌, ◌+◌, ◌==◌, ◌∷◌, ◌≡◌, Bool, false, if◌then◌else◌, int_lt, is_none}
use Rattle.std.specs.Prelude.{List, map, max, min, nat_le, nat_lt, None, Ok, Option, option_and_then, option_map, pos}
use Rattle.std.specs.Prelude.{Some, suc, true, zero, ℕ, ℤ}
use Rattle.rbc_spec.specs.Line.{end, IsLine, Line, section_of_group, start}
use Rattle.rbc_spec.specs.Maps.{has, put, put_pair}
use Rattle.rbc_spec.specs.Message.{Authority, EndOfMission, InitiationOfSession, Report, ShorteningGranted}
use Rattle.rbc_spec.specs.Message.{ShorteningRequest, StartOfMission, TerminationOfSession, TrackBody, TrainAccepted}
use Rattle.rbc_spec.specs.Message.{TrainBody, TrainMessage, TrainRejected}
use Rattle.rbc_spec.specs.Outcome.{Done, Saying, Told, Word}
use Rattle.rbc_spec.specs.Place.{extent, Place, Position}
use Rattle.rbc_spec.specs.Sections.{is_on, section_count}
use Rattle.rbc_spec.specs.World.{Answer, Answered, Bytes, centre_of, Event, new_world, Set, Unset, World, world_run}

-- a pending request to shorten: the centre that sent it, its T_TRAIN, and the proposed end of the authority
pub record Shortening : Type 0 where
  pub centre : ℕ
  pub stamp : ℕ
  pub end : ℕ

-- How far a train may run. `track` is its track. `rear` is its safe rear end in decimetres. `end` is the farthest end
-- that it was sent, in metres. `since` is T_TRAIN of its last message that was answered by an authority or by an
-- accepted start. `asked` is the request to shorten that was sent after that.
-- Rules: CL-8
pub record Stretch : Type 0 where
  pub track : ℕ
  pub rear : ℤ
  pub end : ℕ
  pub since : ℕ
  pub asked : Option Shortening

-- The observer's view. `stretch`: how far each train may run. `start`: for each train and centre, the stretch of a
-- start of mission without an answer. `released`: the sections that the interlocking has released and not taken back.
-- `stray`: some train was sent a message that it cannot place.
pub record View : Type 0 where
  pub stretch : ℕ → Option Stretch
  pub start : ℕ → ℕ → Option Stretch
  pub released : ℕ → Bool
  pub stray : Bool

abbrev pub nothing_seen : View
nothing_seen = record { stretch = λ t. None; start = λ t c. None; released = λ s. false; stray = false }

-- the section is in the stretch, at least in part
abbrev pub is_in : Line → ℕ → Stretch → Bool
is_in line s x = (is_on line x.track s && nat_lt (start line s) x.end) && int_lt x.rear (pos (10 * end line s))

-- the train may run over the section
abbrev pub may_run_over : Line → View → ℕ → ℕ → Bool
may_run_over line v t s = has (is_in line s) (v.stretch t)

-- the end of the section that has the front: of the first n sections, the last on the track that starts before the
-- front
unfoldable pub front_end : Line → Place → ℕ → Option ℕ
front_end line place zero = None
front_end line place (suc n) =
    if is_on line place.track n && nat_lt (10 * start line n) place.front then Some (end line n)
    else front_end line place n

-- ## Messages of a train

-- a report takes back the part in rear of its safe rear end
abbrev pub cleared : Place → Stretch → Stretch
cleared place x = option_map_or (λ rear. if int_lt x.rear rear then record x { rear = rear } else x) place.rear x

abbrev pub up_to : Stretch → ℕ → Stretch
up_to x end = record x { end = min x.end end }

-- An end of mission at standstill also takes back the part in advance of the section that has the front. A granted
-- request takes back the part in advance of the proposed end, if the front has not passed that.
abbrev pub takes_back : Line → ℕ → TrainBody → Place → Stretch → Stretch
takes_back line c (Report position) place x = cleared place x
takes_back line c (EndOfMission position) place x =
    if position.v_train == 0
    then option_map_or (up_to (cleared place x)) (front_end line place (section_count line)) (cleared place x)
    else cleared place x
takes_back line c (ShorteningGranted stamp position) place x =
    option_map_or
    (λ a. if ((a.centre == c) && (a.stamp == stamp)) && nat_le place.front (10 * a.end) then up_to x a.end else x)
    x.asked x
takes_back line c body place x = x

abbrev pub position_of : TrainBody → Option Position
position_of (Report position) = Some position
position_of (EndOfMission position) = Some position
position_of (ShorteningGranted stamp position) = Some position
position_of body = None

-- the rest after a message: it takes back only if the train sent it after the last one that was answered
abbrev pub after_message : Line → ℕ → ℕ → TrainBody → Stretch → Stretch
after_message line c t_train body x =
    option_map_or
    (λ place. if (place.track == x.track) && nat_lt x.since t_train then takes_back line c body place x else x)
    (option_and_then (extent line) (position_of body)) x

-- the stretch of a start is from its safe rear end to the end of the section that has the front
abbrev pub begun : Line → ℕ → Place → Option Stretch
begun line stamp place =
    option_and_then (λ rear. option_map
    (λ e. record { track = place.track; rear = rear; end = e; since = stamp; asked = None })
    (front_end line place (section_count line))) place.rear

abbrev pub starts : ℕ → ℕ → Option Stretch → View → View
starts t c x v = record v { start = put_pair v.start t c x }

abbrev pub says : Line → ℕ → TrainMessage → TrainBody → View → View
says line c m (StartOfMission is_valid position) v =
    starts m.nid_engine c
    (if is_valid then option_and_then (begun line m.t_train) (extent line position) else None) v
says line c m InitiationOfSession v = starts m.nid_engine c None v
says line c m TerminationOfSession v = starts m.nid_engine c None v
says line c m body v =
    record v {
      stretch = put v.stretch m.nid_engine
          (option_map (after_message line c m.t_train body) (v.stretch m.nid_engine));
    }

-- ## Messages to a train

-- A train whose stretch is not empty keeps it, and gets the stretch of its start too. That is possible only on the same
-- track.
abbrev pub accepted : Option Stretch → Stretch → Option Stretch
accepted None y = Some y
accepted (Some x) y =
    if int_lt x.rear (pos (10 * x.end))
    then (if x.track == y.track
    then Some (record y {
      rear = if int_lt x.rear y.rear then x.rear else y.rear;
      end = max x.end y.end;
      since = max x.since y.since;
    }) else None)
    else Some y

-- the train may run over this stretch from now on; `None` is a message that it cannot place
abbrev pub gets : ℕ → Option Stretch → View → View
gets t None v = record v { stray = true }
gets t (Some x) v = record v { stretch = put v.stretch t (Some x) }

-- this many metres in advance of a balise group of the train's track
abbrev pub metres_from : Line → ℕ → ℕ → Stretch → Option ℕ
metres_from line group metres x =
    option_and_then (λ s. if is_on line x.track s then Some (start line s + metres) else None)
    (section_of_group line group)

-- T_TRAIN of the message of train t that the event is
abbrev pub stamp_of : Event → ℕ → Option ℕ
stamp_of (Bytes c (Ok m)) t = if m.nid_engine == t then Some m.t_train else None
stamp_of event t = None

-- an authority: the farther of both ends counts, and the authority answers a message of the train
abbrev pub extended : Line → Event → ℕ → ℕ → ℕ → Stretch → Option Stretch
extended line event t group metres x =
    option_and_then (λ stamp. option_map
    (λ e. record x { end = max x.end e; since = max x.since stamp; asked = None }) (metres_from line group metres x))
    (stamp_of event t)

-- a request to shorten takes nothing back until it is granted
abbrev pub asked_for : Line → ℕ → ℕ → ℕ → ℕ → Stretch → Option Stretch
asked_for line c stamp group metres x =
    option_map (λ e. record x { asked = Some (record { centre = c; stamp = stamp; end = e }) })
    (metres_from line group metres x)

abbrev pub is_told : Line → Event → Saying → TrackBody → View → View
is_told line event p TrainAccepted v =
    gets p.nid_engine
    (option_and_then (accepted (v.stretch p.nid_engine)) (v.start p.nid_engine (centre_of event)))
    (starts p.nid_engine (centre_of event) None v)
is_told line event p TrainRejected v = starts p.nid_engine (centre_of event) None v
is_told line event p (Authority l) v =
    gets p.nid_engine
    (option_and_then (extended line event p.nid_engine p.message.nid_lrbg l) (v.stretch p.nid_engine)) v
is_told line event p (ShorteningRequest l) v =
    gets p.nid_engine
    (option_and_then (asked_for line (centre_of event) p.message.t_train p.message.nid_lrbg l)
    (v.stretch p.nid_engine)) v
is_told line event p body v = v

-- ## Replies to the interlocking

abbrev pub hears : Event → Word → View → View
hears (Set c e) (Done s) v = if s == e then record v { released = put v.released s true } else v
hears (Unset c e) (Done s) v = record v { released = put v.released e false }
hears event (Told s) v = record v { released = put v.released s false }
hears event word v = v

-- ## A list of events, with the messages and replies after each

abbrev pub all_told : Line → Event → List Saying → View → View
all_told line event [] v = v
all_told line event (p ∷ ps) v = all_told line event ps (is_told line event p p.message.body v)

abbrev pub all_heard : Event → List Word → View → View
all_heard event [] v = v
all_heard event (w ∷ ws) v = all_heard event ws (hears event w v)

-- The part of a centre's step that is seen outside: whether a train's message was accepted, messages to trains, replies
-- to the interlocking.
pub record Spoken : Type 0 where
  pub is_heard : Bool
  pub sayings : List Saying
  pub words : List Word

-- the message of an event, if it was accepted
abbrev pub said_by : Line → Event → Bool → View → View
said_by line (Bytes c (Ok m)) true v = says line c m m.body v
said_by line event is_heard v = v

abbrev pub sees : Line → Event → Option Spoken → View → View
sees line event (Some o) v =
    all_heard event o.words (all_told line event o.sayings (said_by line event o.is_heard v))
sees line event None v = v

-- The view after a list of events. Both lists have the same length; the second has the messages and replies after each
-- event.
abbrev pub sees_all : Line → List Event → List (Option Spoken) → View → View
sees_all line [] [] v = v
sees_all line (event ∷ events) (spoken ∷ others) v = sees_all line events others (sees line event spoken v)
sees_all line events others v = record v { stray = true }

-- ## The promise

-- No two trains may run over one section. None may run over a section that the interlocking has not released, or has
-- taken back. Each train could place each message that it was sent.
-- Rules: CL-9
pub record IsSafeOutside (line : Line) (v : View) : Type 0 where
  pub one_train : (t u s : ℕ) → may_run_over line v t s ≡ true → may_run_over line v u s ≡ true → t ≡ u
  pub released : (t s : ℕ) → may_run_over line v t s ≡ true → v.released s ≡ true
  pub founded : v.stray ≡ false

-- the messages and replies of an answer
abbrev pub spoken_of : Answer → Option Spoken
spoken_of (Answered o) = Some (record { is_heard = is_none o.silence; sayings = o.sayings; words = o.words })
spoken_of answer = None

-- the promise holds after every list of events, even if frames are late, repeated, out of order or lost
-- Rules: CL-9
abbrev pub OutsideTheorem : Type 0
OutsideTheorem = (line : Line) (events : List Event) (answers : List Answer) (w : World)
    → IsLine line → world_run line (new_world line) events ≡ Ok (answers, w)
    → IsSafeOutside line (sees_all line events (map spoken_of answers) nothing_seen)

-- the promise holds after this event, for all events that led to the world before it
abbrev pub StaysSafeOutside : Line → World → Event → Answer → Type 0
StaysSafeOutside line w event answer =
    (events : List Event) (answers : List Answer) → world_run line (new_world line) events ≡ Ok (answers, w)
    → IsSafeOutside line
    (sees_all line (events ++ event ∷ []) (map spoken_of (answers ++ answer ∷ [])) nothing_seen)

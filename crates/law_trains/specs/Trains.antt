-- Trains that keep five rules, the centres of a line, and a radio between them. A message to a centre or to a train
-- may arrive late, more than once, out of order or never. No state of a centre occurs here, and no frame. "In advance
-- of" is further on in the direction of travel, "in rear of" is further back.
use Rattle.std.specs.Prelude.{◌≡◌, ℕ, ◌+◌, ◌*◌, ◌==◌, Bool, true, false, ◌&&◌, ◌||◌, not, if◌then◌else◌, List, []}
use Rattle.std.specs.Prelude.{◌∷◌, min, Option, Some, None, option_map, is_some, nat_lt, nat_le, ℤ, pos, int_lt, int_le}
use Rattle.std.specs.Prelude.{Ok}
use Rattle.std.specs.Option.{option_map_or}
use Rattle.std.specs.List.{Contains}
use Rattle.rbc_spec.specs.Maps.{has, put}
use Rattle.rbc_spec.specs.Line.{Line, IsLine, section_of_group, start, end}
use Rattle.rbc_spec.specs.Sections.{is_on}
use Rattle.rbc_spec.specs.Place.{Place, Position, extent}
use Rattle.rbc_spec.specs.Message.{TrainMessage, TrainBody, TrainData, Request, Report, ShorteningGranted}
use Rattle.rbc_spec.specs.Message.{ShorteningRejected, EndOfMission, StartOfMission, TrackMessage, TrackBody, Authority}
use Rattle.rbc_spec.specs.Message.{DataAcknowledged, ShorteningRequest}
use Rattle.rbc_spec.specs.Outcome.{Saying}
use Rattle.rbc_spec.specs.World.{World, Event, Bytes, centre_of, Answer, Answered, new_world, world_run}
use Rattle.law_outside.specs.Outside.{View, nothing_seen, sees, spoken_of}

-- ## A train

-- the centre that a train follows, and T_TRAIN of the message 8 by which it follows the centre
pub record Followed : Type 0 where
  pub centre : ℕ
  pub stamp : ℕ

-- a request to shorten (message 9): its T_TRAIN, and the proposed end of the authority in metres
pub record Asked : Type 0 where
  pub stamp : ℕ
  pub end : ℕ

-- A train. The first three fields are its true position: its track, its front end and its rear end. Both ends are in
-- decimetres from the start of the track. The other fields are kept on board. `clock`: T_TRAIN of its last message.
-- `has_started`: it has sent a start of mission. `end`: the end of its authority in metres, if it has one. `follows`:
-- the centre that it follows. `gave_back`: T_TRAIN of the last message by which it gave something back. `asked`: for
-- each centre, the request to shorten that it received last.
pub record Train : Type 0 where
  pub track : ℕ
  pub front : ℕ
  pub rear : ℤ
  pub clock : ℕ
  pub has_started : Bool
  pub end : Option ℕ
  pub follows : Option Followed
  pub gave_back : ℕ
  pub asked : ℕ → Option Asked

-- a train before its first moment, at any position
pub record IsNew (x : Train) : Type 0 where
  pub has_length : int_lt x.rear (pos x.front) ≡ true
  pub not_started : x.has_started ≡ false
  pub no_authority : x.end ≡ None
  pub follows_none : x.follows ≡ None
  pub none_asked : (c : ℕ) → x.asked c ≡ None

-- some part of the train is on the section
abbrev pub stands_on : Line → Train → ℕ → Bool
stands_on line x s =
    (is_on line x.track s && nat_lt (10 * start line s) x.front) && int_lt x.rear (pos (10 * end line s))

-- ## Rule 1: T_TRAIN rises with each message, to whichever centre (3.16.3)

-- ## Rule 2: reports are true (3.6). The front end is not in advance of the safe front end. The rear end is not in rear
-- of the safe rear end

abbrev pub position_of : TrainBody → Option Position
position_of (TrainData position) = Some position
position_of (Request position) = Some position
position_of (Report position) = Some position
position_of (ShorteningGranted stamp position) = Some position
position_of (ShorteningRejected stamp position) = Some position
position_of (EndOfMission position) = Some position
position_of (StartOfMission is_valid position) = Some position
position_of body = None

-- Rules: TR-2
abbrev pub is_in_place : Train → Place → Bool
is_in_place x place =
    (place.track == x.track && nat_le x.front place.front)
    && option_map_or (λ rear. int_le rear x.rear) place.rear true

-- Rules: TR-2
abbrev pub is_true_of : Line → Train → TrainBody → Bool
is_true_of line x body = option_map_or
    (λ position. option_map_or (is_in_place x) (extent line position) true)
    (position_of body) true

-- ## Rule 3: a train gives back before it sends that it does. A granted request to shorten (3.8.6) ends its authority
-- at the proposed end, and it grants only a request that it received. An end of mission at standstill (5.5) ends its
-- authority. After both it follows no centre

-- Rules: TR-4
abbrev pub gives_back : ℕ → Option ℕ → Train → Train
gives_back stamp left x = record x { end = left; follows = None; gave_back = stamp }

abbrev pub no_farther : Option Asked → Option ℕ → Option ℕ
no_farther (Some a) (Some e) = Some (min e a.end)
no_farther asked e = None

-- Rules: TR-3
abbrev pub before_it_says : ℕ → ℕ → TrainBody → Train → Train
before_it_says c stamp (ShorteningGranted asked position) x = gives_back stamp (no_farther (x.asked c) x.end) x
before_it_says c stamp (EndOfMission position) x = if position.v_train == 0 then gives_back stamp None x else x
before_it_says c stamp (StartOfMission is_valid position) x = record x { has_started = true }
before_it_says c stamp body x = x

-- Rules: TR-3
abbrev pub was_asked : ℕ → TrainBody → Train → Bool
was_asked c (ShorteningGranted asked position) x = has (λ a. a.stamp == asked) (x.asked c)
was_asked c body x = true

-- the train may send the message to centre c
-- Rules: TR-1
abbrev pub may_say : Line → ℕ → TrainMessage → Train → Bool
may_say line c m x = (nat_lt x.clock m.t_train && is_true_of line x m.body) && was_asked c m.body x

-- the train after that
abbrev pub says : ℕ → TrainMessage → Train → Train
says c m x = record (before_it_says c m.t_train m.body x) { clock = m.t_train }

-- ## Rule 4: a train follows the centre that acknowledged its train data (3.18.3), if it sent them after it last gave
-- something back. It takes an authority only from this centre, and only one that was sent after the acknowledgement

-- Rules: TR-4
abbrev pub takes : ℕ → ℕ → Train → Bool
takes c stamp x = has (λ f. f.centre == c && nat_lt f.stamp stamp) x.follows

-- this many metres in advance of a balise group, from the start of its track
abbrev pub end_from : Line → ℕ → ℕ → Option ℕ
end_from line group metres = option_map (λ s. start line s + metres) (section_of_group line group)

-- the train after it received a message of centre c
-- Rules: TR-4
abbrev pub hears : Line → ℕ → TrackMessage → TrackBody → Train → Train
hears line c m (DataAcknowledged stamp) x =
    if nat_lt x.gave_back stamp then record x { follows = Some (record { centre = c; stamp = m.t_train }) } else x
hears line c m (Authority l) x =
    if takes c m.t_train x
    then option_map_or (λ e. record x { end = Some e }) (end_from line m.nid_lrbg l) x else x
hears line c m (ShorteningRequest l) x =
    option_map_or (λ e. record x { asked = put x.asked c (Some (record { stamp = m.t_train; end = e })) })
    (end_from line m.nid_lrbg l) x
hears line c m body x = x

-- ## Rule 5: a train runs forward, and to the end of its authority at most (3.13, 4.4.9). Before its first start of
-- mission others may move it, to any position in advance

-- Rules: TR-5
abbrev pub may_reach : ℕ → Train → Bool
may_reach front x = (not x.has_started || nat_le front x.front) || has (λ e. nat_le front (10 * e)) x.end

-- Rules: TR-5
abbrev pub may_run : ℕ → ℤ → Train → Bool
may_run front rear x =
    ((nat_le x.front front && int_le x.rear rear) && int_lt rear (pos front)) && may_reach front x

-- ## Trains, radio and centres together

-- A train sends a message to centre c. An event happens to the centres, with this answer. Train t receives a message of
-- centre c. Train t runs to a position.
pub data Moment : Type 0 where
  Says : (c : ℕ) (m : TrainMessage) → Moment
  Happens : (event : Event) (answer : Answer) → Moment
  Hears : (t c : ℕ) (m : TrackMessage) → Moment
  Runs : (t front : ℕ) (rear : ℤ) → Moment

-- Each train, all messages that were ever sent to a centre or by a centre, and the view from outside of the events and
-- answers.
pub record Loop : Type 0 where
  pub train : ℕ → Train
  pub said : List (ℕ × TrainMessage)
  pub told : List (ℕ × Saying)
  pub seen : View

abbrev pub at_first : (ℕ → Train) → Loop
at_first train = record { train = train; said = []; told = []; seen = nothing_seen }

-- the messages of a step of centre c, put to all before
abbrev pub and_told : ℕ → List Saying → List (ℕ × Saying) → List (ℕ × Saying)
and_told c [] told = told
and_told c (p ∷ ps) told = and_told c ps ((c, p) ∷ told)

abbrev pub told_after : Event → Answer → List (ℕ × Saying) → List (ℕ × Saying)
told_after event (Answered o) told = and_told (centre_of event) o.sayings told
told_after event answer told = told

abbrev pub after : Line → Moment → Loop → Loop
after line (Says c m) k = record k {
  train = put k.train m.nid_engine (says c m (k.train m.nid_engine));
  said = (c, m) ∷ k.said;
}
after line (Happens event answer) k =
    record k { told = told_after event answer k.told; seen = sees line event (spoken_of answer) k.seen }
after line (Hears t c m) k = record k { train = put k.train t (hears line c m m.body (k.train t)) }
after line (Runs t front rear) k =
    record k { train = put k.train t (record (k.train t) { front = front; rear = rear }) }

-- A train that obeys keeps the rules, and its name is in no message but its own (SUBSET-037). A train receives only
-- messages that were sent to it.
abbrev pub May : Line → (ℕ → Bool) → Loop → Moment → Type 0
May line obeys k (Says c m) = obeys m.nid_engine ≡ true → may_say line c m (k.train m.nid_engine) ≡ true
May line obeys k (Happens (Bytes c (Ok m)) answer) = obeys m.nid_engine ≡ true → Contains k.said (c, m)
May line obeys k (Happens event answer) = Unit {0}
May line obeys k (Hears t c m) = Contains k.told (c, record { nid_engine = t; message = m })
May line obeys k (Runs t front rear) = obeys t ≡ true → may_run front rear (k.train t) ≡ true

abbrev pub AllMay : Line → (ℕ → Bool) → Loop → List Moment → Type 0
AllMay line obeys k [] = Unit {0}
AllMay line obeys k (m ∷ ms) = May line obeys k m × AllMay line obeys (after line m k) ms

abbrev pub all_after : Line → List Moment → Loop → Loop
all_after line [] k = k
all_after line (m ∷ ms) k = all_after line ms (after line m k)

abbrev pub events_of : List Moment → List Event
events_of [] = []
events_of (Happens event answer ∷ ms) = event ∷ events_of ms
events_of (m ∷ ms) = events_of ms

abbrev pub answers_of : List Moment → List Answer
answers_of [] = []
answers_of (Happens event answer ∷ ms) = answer ∷ answers_of ms
answers_of (m ∷ ms) = answers_of ms

-- ## The claim

-- a centre accepted the train, whether the train received that or not
abbrev pub is_accepted : Loop → ℕ → Bool
is_accepted k t = is_some (k.seen.stretch t)

-- No two accepted trains that obey are on one section. None of them is on a section that the interlocking has not
-- released, or has taken back.
-- Rules: CL-10
pub record IsSafeLoop (line : Line) (obeys : ℕ → Bool) (k : Loop) : Type 0 where
  pub never_meet : (t u s : ℕ) → obeys t ≡ true → obeys u ≡ true → is_accepted k t ≡ true → is_accepted k u ≡ true
      → stands_on line (k.train t) s ≡ true → stands_on line (k.train u) s ≡ true → t ≡ u
  pub released : (t s : ℕ) → obeys t ≡ true → is_accepted k t ≡ true → stands_on line (k.train t) s ≡ true
      → k.seen.released s ≡ true

-- for all trains that obey, and all moments, whatever other trains, the radio and frames between centres do
-- Rules: CL-10
abbrev pub TrainsTheorem : Type 0
TrainsTheorem = (line : Line) (obeys : ℕ → Bool) (train : ℕ → Train) (moments : List Moment) (w : World) → IsLine line
    → ((t : ℕ) → IsNew (train t)) → AllMay line obeys (at_first train) moments
    → world_run line (new_world line) (events_of moments) ≡ Ok (answers_of moments, w)
    → IsSafeLoop line obeys (all_after line moments (at_first train))

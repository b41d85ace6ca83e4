-- The five rules that trains keep (`Trains` of `law_trains`), in parts. Each part may be left out. The scenes play
-- trains, a radio and the centres of a line. The centres answer each event by `world_step`.
use Rattle.std.specs.List.{filter, find, list_all, range_with_len}
use Rattle.std.specs.Option.{option_map_or}
use Rattle.std.specs.Prelude.{[], ◌&&◌, ◌*◌, ◌++◌, ◌+◌, ◌==◌, ◌||◌, ◌∷◌, ◌≡◌, Bool, Err, false, if◌then◌else◌, int_le}
use Rattle.std.specs.Prelude.{int_lt, length, List, map, nat_le, nat_lt, None, not, Ok, Option, pos, Result, Some, true}
use Rattle.std.specs.Prelude.{ℕ, ℤ}
use Rattle.law_trains.specs.Trains as rules
use Rattle.law_trains.specs.Trains.{after, Asked, at_first, end_from, is_accepted, Loop, no_farther, position_of}
use Rattle.law_trains.specs.Trains.{stands_on, Train}
use Rattle.rbc_spec.specs.Line.{Line}
use Rattle.rbc_spec.specs.Maps.{has, put}
use Rattle.rbc_spec.specs.Message.{Authority, EndOfMission, ShorteningGranted, TrackBody, TrackMessage}
use Rattle.rbc_spec.specs.Message.{TrainBody, TrainMessage}
use Rattle.rbc_spec.specs.Outcome.{Saying}
use Rattle.rbc_spec.specs.Place.{extent, Place}
use Rattle.rbc_spec.specs.Sections.{section_count}
use Rattle.rbc_spec.specs.Step.{Refusal}
use Rattle.rbc_spec.specs.World.{Answer, Bytes, Delivery, Event, new_world, World, world_step}

-- ## The parts of the rules

-- `OneClock`: T_TRAIN rises with each message, to whichever centre (rule 1). `TrueFront`, `TrueRear`: a report is true
-- at this end of the train (rule 2). `HeardRequest`: a train grants only a request that it received (rule 3). The next
-- three are of a train that grants a request (rules 3 and 4). `EndAfterGrant`: it ends its authority at the proposed
-- end. `CentreAfterGrant`: it follows no centre. `DataAfterGrant`: it follows a centre again only by train data that it
-- sent after that. The next three are the same of a train that ends its mission at standstill. `FollowedCentre`: it
-- takes an authority only from the centre that it follows (rule 4). `SinceAcknowledged`: it takes only an authority
-- that was sent after the acknowledgement (rule 4). `ToTheEnd`: it runs to the end of its authority at most (rule 5).
-- `WithAuthority`: after a start of mission it runs only with an authority (rule 5).
pub data Part : Type 0 where
  OneClock : Part
  TrueFront : Part
  TrueRear : Part
  HeardRequest : Part
  EndAfterGrant : Part
  CentreAfterGrant : Part
  DataAfterGrant : Part
  EndAtStandstill : Part
  CentreAtStandstill : Part
  DataAtStandstill : Part
  FollowedCentre : Part
  SinceAcknowledged : Part
  ToTheEnd : Part
  WithAuthority : Part

-- the parts that trains keep
abbrev pub Kept : Type 0
Kept = Part → Bool

abbrev pub five_rules : Kept
five_rules part = true

abbrev pub number_of : Part → ℕ
number_of OneClock = 1
number_of TrueFront = 2
number_of TrueRear = 3
number_of HeardRequest = 4
number_of EndAfterGrant = 5
number_of CentreAfterGrant = 6
number_of DataAfterGrant = 7
number_of EndAtStandstill = 8
number_of CentreAtStandstill = 9
number_of DataAtStandstill = 10
number_of FollowedCentre = 11
number_of SinceAcknowledged = 12
number_of ToTheEnd = 13
number_of WithAuthority = 14

-- each part but this one
abbrev pub without : Part → Kept
without left_out part = not (number_of part == number_of left_out)

-- ## The rules by the parts that are kept

abbrev pub is_in_place : Kept → Train → Place → Bool
is_in_place kept x place =
    (place.track == x.track && (not (kept TrueFront) || nat_le x.front place.front))
    && (not (kept TrueRear) || option_map_or (λ rear. int_le rear x.rear) place.rear true)

abbrev pub is_true_of : Kept → Line → Train → TrainBody → Bool
is_true_of kept line x body = option_map_or
    (λ position. option_map_or (is_in_place kept x) (extent line position) true)
    (position_of body) true

abbrev pub may_say : Kept → Line → ℕ → TrainMessage → Train → Bool
may_say kept line c m x =
    ((not (kept OneClock) || nat_lt x.clock m.t_train) && is_true_of kept line x m.body)
    && (not (kept HeardRequest) || rules.was_asked c m.body x)

-- gives back with T_TRAIN `stamp` by the parts of the rule that are kept
abbrev pub gives_back : (is_ended is_followed is_since : Bool) → ℕ → Option ℕ → Train → Train
gives_back is_ended is_followed is_since stamp left x = record x {
  end = if is_ended then left else x.end;
  follows = if is_followed then None else x.follows;
  gave_back = if is_since then stamp else x.gave_back;
}

-- the end of the authority of a train that grants a request; it keeps the end if it received none
abbrev pub end_after_grant : (is_heard : Bool) → Option Asked → Option ℕ → Option ℕ
end_after_grant false None e = e
end_after_grant is_heard asked e = no_farther asked e

abbrev pub before_it_says : Kept → ℕ → ℕ → TrainBody → Train → Train
before_it_says kept c stamp (ShorteningGranted asked position) x =
    gives_back (kept EndAfterGrant) (kept CentreAfterGrant) (kept DataAfterGrant) stamp
    (end_after_grant (kept HeardRequest) (x.asked c) x.end) x
before_it_says kept c stamp (EndOfMission position) x =
    if position.v_train == 0
    then gives_back (kept EndAtStandstill) (kept CentreAtStandstill) (kept DataAtStandstill) stamp None x
    else x
before_it_says kept c stamp body x = rules.before_it_says c stamp body x

abbrev pub says : Kept → ℕ → TrainMessage → Train → Train
says kept c m x = record (before_it_says kept c m.t_train m.body x) { clock = m.t_train }

abbrev pub takes : Kept → ℕ → ℕ → Train → Bool
takes kept c stamp x =
    has (λ f. (not (kept FollowedCentre) || f.centre == c) && (not (kept SinceAcknowledged) || nat_lt f.stamp stamp))
    x.follows

abbrev pub hears : Kept → Line → ℕ → TrackMessage → TrackBody → Train → Train
hears kept line c m (Authority l) x =
    if takes kept c m.t_train x
    then option_map_or (λ e. record x { end = Some e }) (end_from line m.nid_lrbg l) x else x
hears kept line c m body x = rules.hears line c m body x

abbrev pub may_reach : Kept → ℕ → Train → Bool
may_reach kept front x =
    (not x.has_started || nat_le front x.front)
    || (not (kept ToTheEnd) || option_map_or (λ e. nat_le front (10 * e)) x.end (not (kept WithAuthority)))

abbrev pub may_run : Kept → ℕ → ℤ → Train → Bool
may_run kept front rear x =
    ((nat_le x.front front && int_le x.rear rear) && int_lt rear (pos front)) && may_reach kept front x

-- ## Acts

-- An act of a scene. `Says`: train t sends a message to centre c, and the message is on the way. `Arrives`: the message
-- with this T_TRAIN from train t to centre c arrives. `Sends`: both, in this order. `Hears`: train t receives the
-- message with this T_TRAIN from centre c. `Runs`: train t runs to these ends, in decimetres. `Frame`: the next frame
-- from centre a to centre b is delivered. `Commands`: an event of the interlocking.
pub data Act : Type 0 where
  Says : (t c stamp : ℕ) (body : TrainBody) → Act
  Arrives : (t c stamp : ℕ) → Act
  Sends : (t c stamp : ℕ) (body : TrainBody) → Act
  Hears : (t c stamp : ℕ) → Act
  Runs : (t front : ℕ) (rear : ℤ) → Act
  Frame : (a b : ℕ) → Act
  Commands : (event : Event) → Act

-- The state of a scene. `forbidden`: the acts that the kept parts forbid, which were left out. `is_safe`: the state was
-- safe after each act, as far as positions and the view from outside show it.
pub record Play : Type 0 where
  pub loop : Loop
  pub world : World
  pub forbidden : List Act
  pub is_safe : Bool

abbrev pub message : (t stamp : ℕ) → TrainBody → TrainMessage
message t stamp body = record { t_train = stamp; nid_engine = t; body = body }

-- the message that a train sent to centre c with this T_TRAIN
abbrev pub said_with : (t c stamp : ℕ) → List (ℕ × TrainMessage) → Option (ℕ × TrainMessage)
said_with t c stamp said =
    find (λ (p : ℕ × TrainMessage). ((p.0 == c) && (p.1.nid_engine == t)) && (p.1.t_train == stamp)) said

-- the message that centre c sent to a train with this T_TRAIN
abbrev pub told_with : (t c stamp : ℕ) → List (ℕ × Saying) → Option (ℕ × Saying)
told_with t c stamp told =
    find (λ (p : ℕ × Saying). ((p.0 == c) && (p.1.nid_engine == t)) && (p.1.message.t_train == stamp)) told

-- ## Effects of acts

-- the act is forbidden, and is left out
abbrev pub forbids : Act → Play → Play
forbids act p = record p { forbidden = p.forbidden ++ act ∷ [] }

-- the centres have answered an event
abbrev pub answered : Line → Event → Play → Result (Answer × World) Refusal → Play
answered line event p (Ok (answer, w)) =
    record p { loop = after line (rules.Happens event answer) p.loop; world = w }
answered line event p (Err why) = p

abbrev pub happens : Line → Event → Play → Play
happens line event p = answered line event p (world_step line p.world event)

abbrev pub said_by : Kept → ℕ → TrainMessage → Loop → Loop
said_by kept c m k = record k {
  train = put k.train m.nid_engine (says kept c m (k.train m.nid_engine));
  said = (c, m) ∷ k.said;
}

-- the state after an act; if the act is forbidden, it is left out
abbrev pub unless_forbidden : Bool → Act → Play → Play → Play
unless_forbidden true act new p = new
unless_forbidden false act new p = forbids act p

abbrev pub goes_out : Kept → Line → Act → ℕ → TrainMessage → Play → Play
goes_out kept line act c m p =
    unless_forbidden (may_say kept line c m (p.loop.train m.nid_engine)) act
    (record p { loop = said_by kept c m p.loop }) p

-- a message arrives if it was sent
abbrev pub comes_in : Line → ℕ → Option (ℕ × TrainMessage) → Play → Play
comes_in line c (Some (d, m)) p = happens line (Bytes c (Ok m)) p
comes_in line c None p = p

abbrev pub arrives : Line → (t c stamp : ℕ) → Play → Play
arrives line t c stamp p = comes_in line c (said_with t c stamp p.loop.said) p

abbrev pub heard_by : Kept → Line → (t c : ℕ) → Option (ℕ × Saying) → Play → Play
heard_by kept line t c (Some (d, saying)) p =
    record p {
      loop = record p.loop {
        train = put p.loop.train t (hears kept line c saying.message saying.message.body (p.loop.train t));
      };
    }
heard_by kept line t c None p = p

abbrev pub next_frame : (a b : ℕ) → World → ℕ
next_frame a b w = (w.at b).taken a + 1

abbrev pub does : Kept → Line → Act → Play → Play
does kept line (Says t c stamp body) p = goes_out kept line (Says t c stamp body) c (message t stamp body) p
does kept line (Arrives t c stamp) p = arrives line t c stamp p
does kept line (Sends t c stamp body) p =
    arrives line t c stamp (goes_out kept line (Sends t c stamp body) c (message t stamp body) p)
does kept line (Hears t c stamp) p = heard_by kept line t c (told_with t c stamp p.loop.told) p
does kept line (Runs t front rear) p =
    unless_forbidden (may_run kept front rear (p.loop.train t)) (Runs t front rear)
    (record p { loop = after line (rules.Runs t front rear) p.loop }) p
does kept line (Frame a b) p = happens line (Delivery a b (next_frame a b p.world)) p
does kept line (Commands event) p = happens line event p

-- ## Scenes

-- the accepted trains of the line that have a part on the section
abbrev pub accepted_on : Line → Loop → ℕ → List ℕ
accepted_on line k s =
    filter (λ t. is_accepted k t && stands_on line (k.train t) s) (map (λ p. p.nid_engine) line.trains)

-- no accepted train is on the section; or only one, and the section is released
abbrev pub is_section_safe : Line → Loop → ℕ → Bool
is_section_safe line k s =
    (length (accepted_on line k s) == 0) || ((length (accepted_on line k s) == 1) && k.seen.released s)

abbrev pub are_sections_safe : Line → Loop → Bool
are_sections_safe line k = list_all (is_section_safe line k) (range_with_len 0 (section_count line))

abbrev pub seen_after : Line → Play → Play
seen_after line p = record p { is_safe = p.is_safe && are_sections_safe line p.loop }

abbrev pub plays : Kept → Line → List Act → Play → Play
plays kept line [] p = p
plays kept line (act ∷ acts) p = plays kept line acts (seen_after line (does kept line act p))

-- a line, its trains before their first act, and acts
pub record TrainScene : Type 0 where
  pub line : Line
  pub train : ℕ → Train
  pub acts : List Act

unfoldable pub played : Kept → TrainScene → Play
played kept scene = plays kept scene.line scene.acts (record {
  loop = at_first scene.train;
  world = new_world scene.line;
  forbidden = [];
  is_safe = true;
})

-- ## The results of scenes

-- both trains are accepted, and have a part on the section
abbrev pub meet_on : (t u s : ℕ) → Line → Loop → Bool
meet_on t u s line k =
    (is_accepted k t && is_accepted k u) && (stands_on line (k.train t) s && stands_on line (k.train u) s)

-- the train is accepted, and has a part on a section that is not released
abbrev pub is_on_shut : (t s : ℕ) → Line → Loop → Bool
is_on_shut t s line k = (is_accepted k t && stands_on line (k.train t) s) && not (k.seen.released s)

-- A part of the rules, a scene of trains that leave it out, how the scene ends, and the acts that the five rules forbid
pub record LeftOut : Type 0 where
  pub part : Part
  pub scene : TrainScene
  pub is_wrong : Line → Loop → Bool
  pub forbidden : List Act

-- Trains that keep all other parts do each act of the scene, and it ends wrong. The five rules forbid the named acts.
-- Without these acts trains that keep the rules are safe after each act.
pub record IsNeeded (x : LeftOut) : Type 0 where
  pub allowed : (played (without x.part) x.scene).forbidden ≡ []
  pub wrong : x.is_wrong x.scene.line (played (without x.part) x.scene).loop ≡ true
  pub forbidden : (played five_rules x.scene).forbidden ≡ x.forbidden
  pub safe : (played five_rules x.scene).is_safe ≡ true

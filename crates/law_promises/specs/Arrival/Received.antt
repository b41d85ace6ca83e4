-- The view by which trains run if any message to them may be lost, an acceptance (41) too. A message that is still
-- under way counts as lost. One that has arrived counts from the event that it follows. Two things are required of
-- trains, and none of the centres. A train grants only a request that has arrived at it. No authority arrives at a
-- train whose last acceptance was lost. For within a session over GSM-R nothing is lost, and in a later session a train
-- requests no authority before it is accepted.
use Rattle.std.specs.Prelude.{[], ◌&&◌, ◌==◌, ◌||◌, ◌∷◌, ◌≡◌, Bool, false, List, map, None, not, Ok, Option, Some, true}
use Rattle.std.specs.Prelude.{ℕ}
use Rattle.law_outside.specs.Outside.{nothing_seen, sees_all, Spoken, spoken_of}
use Rattle.law_promises.specs.Arrival.Arrival.{IsSafeByWhatCame}
use Rattle.rbc_spec.specs.Line.{IsLine, Line}
use Rattle.rbc_spec.specs.Maps.{put}
use Rattle.rbc_spec.specs.Message.{Authority, ShorteningGranted, ShorteningRequest, TrackBody, TrainAccepted, TrainBody}
use Rattle.rbc_spec.specs.Outcome.{Saying, Word}
use Rattle.rbc_spec.specs.World.{Answer, Bytes, centre_of, Event, new_world, World, world_run}

-- For each train, whether its last acceptance (41) was lost. For each train, centre and T_TRAIN, whether a request to
-- shorten (9) with that T_TRAIN has arrived from that centre at the train.
pub record Known : Type 0 where
  pub misses : ℕ → Bool
  pub requested : ℕ → ℕ → ℕ → Bool

abbrev pub nothing_known : Known
nothing_known = record { misses = λ t. false; requested = λ t c stamp. false }

-- an authority arrives only at a train whose last acceptance has arrived
abbrev pub may_come : Known → Saying → TrackBody → Bool
may_come k p (Authority l) = not (k.misses p.nid_engine)
may_come k p body = true

-- a message of centre c arrives at its train
abbrev pub after_coming : ℕ → Saying → TrackBody → Known → Known
after_coming c p TrainAccepted k = record k { misses = put k.misses p.nid_engine false }
after_coming c p (ShorteningRequest l) k =
    record k {
      requested = λ t d stamp.
          ((t == p.nid_engine && d == c) && stamp == p.message.t_train) || k.requested t d stamp;
    }
after_coming c p body k = k

-- a message is lost
abbrev pub after_loss : Saying → TrackBody → Known → Known
after_loss p TrainAccepted k = record k { misses = put k.misses p.nid_engine true }
after_loss p body k = k

-- some of the messages of centre c reach their trains, in order, and the others are lost; new is known after them
pub data Reaches (c : ℕ) (new : Known) : Known → List Saying → List Saying → Type 0 where
  none_left : Reaches c new new [] []
  reaches : (k : Known) (p : Saying) (told some : List Saying) → may_come k p p.message.body ≡ true
      → Reaches c new (after_coming c p p.message.body k) told some → Reaches c new k (p ∷ told) (p ∷ some)
  lost : (k : Known) (p : Saying) (told some : List Saying)
      → Reaches c new (after_loss p p.message.body k) told some → Reaches c new k (p ∷ told) some

-- the part of a step's messages that arrives, after an event at centre c; replies to the interlocking always arrive
pub data PartReaches (c : ℕ) (new : Known) : Known → Option Spoken → Option Spoken → Type 0 where
  nothing_spoken : PartReaches c new new None None
  part_reaches : (k : Known) (is_heard : Bool) (told some : List Saying) (words : List Word) → Reaches c new k told some
      → PartReaches c new k (Some (record { is_heard = is_heard; sayings = told; words = words }))
      (Some (record { is_heard = is_heard; sayings = some; words = words }))

-- train t grants centre c only a request of c that has arrived at the train
abbrev pub may_say : Known → (c t : ℕ) → TrainBody → Bool
may_say k c t (ShorteningGranted stamp position) = k.requested t c stamp
may_say k c t body = true

abbrev pub may_happen : Known → Event → Bool
may_happen k (Bytes c (Ok m)) = may_say k c m.nid_engine m.body
may_happen k event = true

-- after each event some part of its messages arrives
abbrev pub AreReceived : Known → List Event → List (Option Spoken) → List (Option Spoken) → Type 0
AreReceived k [] [] [] = Unit {0}
AreReceived k (event ∷ events) (spoken ∷ others) (part ∷ parts) =
    (may_happen k event ≡ true)
    × ((new : Known) × PartReaches (centre_of event) new k spoken part × AreReceived new events others parts)
AreReceived k events spoken parts = ⊥

-- for all events of the centres of a line, and every part of their messages that arrives at the trains
abbrev pub ReceivedTheorem : Type 0
ReceivedTheorem = (line : Line) (events : List Event) (answers : List Answer) (w : World) (came : List (Option Spoken))
    → IsLine line → world_run line (new_world line) events ≡ Ok (answers, w)
    → AreReceived nothing_known events (map spoken_of answers) came
    → IsSafeByWhatCame line (sees_all line events came nothing_seen)

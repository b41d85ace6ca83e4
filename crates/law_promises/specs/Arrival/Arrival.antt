-- The view by which trains run if only a part of the messages to them arrives. Each runs by the messages that arrived,
-- in their order, and by its own messages.
use Rattle.std.specs.Prelude.{[], ◌∷◌, ◌≡◌, Bool, false, List, None, Ok, Option, Some, true, ℕ}
use Rattle.law_outside.specs.Outside.{IsSafeOutside, may_run_over, nothing_seen, sees, sees_all, Shortening, Spoken}
use Rattle.law_outside.specs.Outside.{Stretch, View}
use Rattle.rbc_spec.specs.Line.{Line}
use Rattle.rbc_spec.specs.Message.{ShorteningGranted, TrackBody, TrainAccepted}
use Rattle.rbc_spec.specs.Outcome.{Saying, Word}
use Rattle.rbc_spec.specs.Place.{Position}
use Rattle.rbc_spec.specs.World.{Bytes, Event}

abbrev pub is_acceptance : TrackBody → Bool
is_acceptance TrainAccepted = true
is_acceptance body = false

-- some of the messages, in their order: each may be lost but that a train is accepted
pub data Comes : List Saying → List Saying → Type 0 where
  no_more : Comes [] []
  comes : (p : Saying) (told some : List Saying) → Comes told some → Comes (p ∷ told) (p ∷ some)
  is_lost : (p : Saying) (told some : List Saying) → is_acceptance p.message.body ≡ false → Comes told some
      → Comes (p ∷ told) some

-- the part of a step's messages and replies that arrives
pub data PartOf : Option Spoken → Option Spoken → Type 0 where
  none_spoken : PartOf None None
  some_spoken : (is_heard : Bool) (told some : List Saying) (words : List Word) → Comes told some
      → PartOf (Some (record { is_heard = is_heard; sayings = told; words = words }))
      (Some (record { is_heard = is_heard; sayings = some; words = words }))

-- If a train grants the request that was last sent to it, that request has arrived. View v is of all messages that were
-- sent, w of those that arrived.
abbrev pub GrantsWhatCame : Event → View → View → Type 0
GrantsWhatCame (Bytes c (Ok m)) v w =
    (position : Position) (x y : Stretch) (a : Shortening) → m.body ≡ ShorteningGranted a.stamp position → a.centre ≡ c
    → v.stretch m.nid_engine ≡ Some x → w.stretch m.nid_engine ≡ Some y → x.asked ≡ Some a → y.asked ≡ Some a
GrantsWhatCame event v w = Unit {0}

abbrev pub Arrive : Line → List Event → List (Option Spoken) → List (Option Spoken) → View → View → Type 0
Arrive line [] [] [] v w = Unit {0}
Arrive line (event ∷ events) (spoken ∷ all) (part ∷ came) v w =
    PartOf spoken part × GrantsWhatCame event v w
    × Arrive line events all came (sees line event spoken v) (sees line event part w)
Arrive line events all came v w = ⊥

-- by the messages that arrived, no two trains may run over one section, and none over one that is not released
pub record IsSafeByWhatCame (line : Line) (w : View) : Type 0 where
  pub one_train : (t u s : ℕ) → may_run_over line w t s ≡ true → may_run_over line w u s ≡ true → t ≡ u
  pub released : (t s : ℕ) → may_run_over line w t s ≡ true → w.released s ≡ true

-- for every part of the messages that arrives: if the trains are safe by all messages, they are safe by that part
abbrev pub ArrivalTheorem : Type 0
ArrivalTheorem = (line : Line) (events : List Event) (spoken came : List (Option Spoken))
    → IsSafeOutside line (sees_all line events spoken nothing_seen)
    → Arrive line events spoken came nothing_seen nothing_seen
    → IsSafeByWhatCame line (sees_all line events came nothing_seen)

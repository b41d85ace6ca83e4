-- The invariant of a train that obeys: its stretch as it is seen from outside, and the messages between it and centres.
use Rattle.std.proofs.Common.{◌≡◌, ℕ, ◌*◌, ◌<◌, ◌≤◌, ◌⊎◌, Bool, true, List, [], ◌∷◌, length, get_or, Option, Some, None}
use Rattle.std.proofs.Common.{ℤ, pos, int_lt, int_le, refl, sym, subst, inl, inr, arith}
use Rattle.std.specs.Prelude.{Contains}
use Rattle.std.proofs.lemmas.List.Elements.{Contains-append_cases, Contains-append_right, Contains-append_left}
use Rattle.rbc_spec.specs.Line.{Line}
use Rattle.rbc_spec.specs.Place.{Place, Position, extent}
use Rattle.rbc_spec.specs.Message.{TrainMessage, TrainBody, ShorteningGranted, EndOfMission, StartOfMission}
use Rattle.rbc_spec.specs.Message.{TrackMessage, Authority, DataAcknowledged, ShorteningRequest}
use Rattle.rbc_spec.specs.Outcome.{Saying}
use Rattle.law_outside.specs.Outside.{Shortening, Stretch}
use Rattle.law_trains.specs.Trains.{Train, Followed, Asked, position_of, end_from}
use Rattle.law_trains.proofs.Within.{IsWithin, EndsWithin}

-- ## Lists

pub contains_here : {X : Type 0} (x : X) (xs : List X) → Contains (x ∷ xs) x
contains_here x xs = Contains-append_left (x ∷ []) xs x (0, (omega arith), refl)

pub contains_none : {X : Type 0} {x : X} → Contains [] x → ⊥
contains_none h = let low = h.1 in omega (arith, low)

pub contains_later : {X : Type 0} (x y : X) (xs : List X) → Contains xs y → Contains (x ∷ xs) y
contains_later x y xs h = Contains-append_right (x ∷ []) xs y h

pub contains_cases : {X : Type 0} (x y : X) (xs : List X) → Contains (x ∷ xs) y → (x ≡ y) ⊎ Contains xs y
contains_cases {X} x y xs h = elim (Contains-append_cases (x ∷ []) xs y h) [
  | inl here ↦ inl (by_index here.0 here.1 here.2)
  | inr later ↦ inr later
]
  where
    by_index : (k : ℕ) → k < length (x ∷ []) → get_or (x ∷ []) k y ≡ y → x ≡ y
    by_index k low is = let zero_is : k ≡ 0 = omega arith in
        subst (λ (n : ℕ). get_or (x ∷ []) n y ≡ y → x ≡ y) (sym zero_is) (λ same. same) is

-- ## Messages of one train

abbrev pub Saids : Type 0
Saids = List (ℕ × TrainMessage)

abbrev pub Tolds : Type 0
Tolds = List (ℕ × Saying)

abbrev pub GivesBack : TrainBody → Type 0
GivesBack (ShorteningGranted stamp position) = Unit {0}
GivesBack (EndOfMission position) = position.v_train ≡ 0
GivesBack body = ⊥

-- the train is on the track of the place, and not in rear of its safe rear end
pub record IsPast (x : Train) (place : Place) : Type 0 where
  pub track : place.track ≡ x.track
  pub rear : (r : ℤ) → place.rear ≡ Some r → int_le r x.rear ≡ true

module _ (line : Line) (t : ℕ) where
  -- the train has sent this to centre c
  abbrev pub IsSaid : Saids → ℕ → ℕ → TrainBody → Type 0
  IsSaid said c n body = Contains said (c, record { t_train = n; nid_engine = t; body = body })

  -- centre c has sent this to the train
  abbrev pub IsTold : Tolds → ℕ → TrackMessage → Type 0
  IsTold told c m = Contains told (c, record { nid_engine = t; message = m })

  pub record IsHonest (x : Train) (said : Saids) : Type 0 where
    pub clock : (c n : ℕ) (body : TrainBody) → IsSaid said c n body → n ≤ x.clock
    pub gave : (c n : ℕ) (body : TrainBody) → IsSaid said c n body → GivesBack body → n ≤ x.gave_back
    pub length : int_lt x.rear (pos x.front) ≡ true
    pub started : (c n : ℕ) (is_valid : Bool) (position : Position) → IsSaid said c n (StartOfMission is_valid position)
        → x.has_started ≡ true
    pub past : (c n : ℕ) (body : TrainBody) (position : Position) (place : Place) → IsSaid said c n body
        → position_of body ≡ Some position → extent line position ≡ Some place → IsPast x place

  -- the train has sent a start of mission whose T_TRAIN is not above this number
  pub record HasStarted (said : Saids) (n : ℕ) : Type 0 where
    pub centre : ℕ
    pub stamp : ℕ
    pub is_valid : Bool
    pub position : Position
    pub is : IsSaid said centre stamp (StartOfMission is_valid position)
    pub le : stamp ≤ n

  -- each start of mission has a T_TRAIN above this number
  abbrev pub IsEarly : Saids → ℕ → Type 0
  IsEarly said n = (c k : ℕ) (is_valid : Bool) (position : Position)
      → IsSaid said c k (StartOfMission is_valid position) → n < k

  -- it was not accepted yet
  pub record NotYet (x : Train) (said : Saids) (told : Tolds) : Type 0 where
    pub end : x.end ≡ None
    pub front : (c n : ℕ) (is_valid : Bool) (position : Position) (place : Place)
        → IsSaid said c n (StartOfMission is_valid position) → extent line position ≡ Some place → x.front ≤ place.front
    pub none_told : (c : ℕ) (m : TrackMessage) (l : ℕ) → IsTold told c m → m.body ≡ Authority l → ⊥

  -- all that it gave back, it gave back by messages before the one with this T_TRAIN
  abbrev pub GaveBefore : Saids → ℕ → Type 0
  GaveBefore said s = (c n : ℕ) (body : TrainBody) → IsSaid said c n body → GivesBack body → n < s

  -- An authority that a centre sent after it acknowledged train data with T_TRAIN s. The stretch reaches as far, if the
  -- train gave nothing back after it sent the train data.
  pub record IsFresh (said : Saids) (z : Stretch) (s : ℕ) (m : TrackMessage) (l : ℕ) : Type 0 where
    pub since : s < z.since
    pub end : GaveBefore said s → (e : ℕ) → end_from line m.nid_lrbg l ≡ Some e → e ≤ z.end

  -- centre c has sent this request to shorten
  pub record IsRequest (all : Tolds) (c n e : ℕ) : Type 0 where
    pub m : TrackMessage
    pub l : ℕ
    pub told : IsTold all c m
    pub stamp : m.t_train ≡ n
    pub body : m.body ≡ ShorteningRequest l
    pub end : end_from line m.nid_lrbg l ≡ Some e

  -- the pending request to shorten is the only one of its T_TRAIN
  pub record IsAsked (o : Option Shortening) (told : Tolds) : Type 0 where
    pub named : (a : Shortening) → o ≡ Some a → IsRequest told a.centre a.stamp a.end
    pub only : (a : Shortening) → o ≡ Some a → (m : TrackMessage) (l e : ℕ) → IsTold told a.centre m
        → m.t_train ≡ a.stamp → m.body ≡ ShorteningRequest l → end_from line m.nid_lrbg l ≡ Some e → e ≡ a.end

  -- it was accepted
  pub record UnderWay (x : Train) (z : Stretch) (said : Saids) (told : Tolds) : Type 0 where
    pub within : IsWithin x z
    pub ends : EndsWithin x z
    pub started : HasStarted said z.since
    pub fresh : (c : ℕ) (m k : TrackMessage) (l s : ℕ) → IsTold told c m → m.body ≡ Authority l → IsTold told c k
        → k.body ≡ DataAcknowledged s → k.t_train < m.t_train → IsFresh said z s m l
    pub asked : IsAsked z.asked told

  -- a message with this T_TRAIN may still take something back
  abbrev pub IsLive : Option Stretch → ℕ → Type 0
  IsLive o n = (z : Stretch) → o ≡ Some z → z.since < n

  -- it has granted a request
  pub record HasGranted (x : Train) (told : Tolds) (c stamp : ℕ) (position : Position) : Type 0 where
    pub end : ℕ
    pub request : IsRequest told c stamp end
    pub front : (place : Place) → extent line position ≡ Some place → place.front ≤ 10 * end → x.front ≤ 10 * end
    pub ends : (k : ℕ) → x.end ≡ Some k → k ≤ end

  -- it has ended its mission at standstill
  pub record HasEnded (x : Train) (position : Position) : Type 0 where
    pub end : x.end ≡ None
    pub front : (place : Place) → extent line position ≡ Some place → x.front ≤ place.front

  -- a start of mission that a centre has not answered yet
  pub record HasBegun (x : Train) (o : Option Stretch) (y : Stretch) (said : Saids) : Type 0 where
    pub track : y.track ≡ x.track
    pub rear : int_le y.rear x.rear ≡ true
    pub front : o ≡ None → x.front ≤ 10 * y.end
    pub asked : y.asked ≡ None
    pub started : HasStarted said y.since

  -- the message 8 by which it follows a centre
  pub record IsFollowed (x : Train) (all : Tolds) (f : Followed) : Type 0 where
    pub m : TrackMessage
    pub s : ℕ
    pub told : IsTold all f.centre m
    pub stamp : m.t_train ≡ f.stamp
    pub body : m.body ≡ DataAcknowledged s
    pub after : x.gave_back < s

  pub record Keeps (x : Train) (o : Option Stretch) (start : ℕ
      → Option Stretch) (said : Saids) (told : Tolds) : Type 0 where
    pub honest : IsHonest x said
    pub none : o ≡ None → NotYet x said told
    pub some : (z : Stretch) → o ≡ Some z → UnderWay x z said told
    pub granted : (c n stamp : ℕ) (position : Position) → IsSaid said c n (ShorteningGranted stamp position)
        → IsLive o n
        → IsEarly said n ⊎ HasGranted x told c stamp position
    pub ended : (c n : ℕ) (position : Position) → IsSaid said c n (EndOfMission position) → position.v_train ≡ 0
        → IsLive o n → IsEarly said n ⊎ HasEnded x position
    pub begun : (c : ℕ) (y : Stretch) → start c ≡ Some y → HasBegun x o y said
    pub follows : (f : Followed) → x.follows ≡ Some f → IsFollowed x told f
    pub asked : (c : ℕ) (a : Asked) → x.asked c ≡ Some a → IsRequest told c a.stamp a.end

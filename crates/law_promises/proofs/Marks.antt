-- The hands of trains after a step, and how their words follow their missions.
use Rattle.std.proofs.Common.{◌&&◌, ◌*◌, ◌||◌, ◌∙◌, ◌≡◌, ◌≤◌, ap, Bool, eqb-true, false, if◌then◌else◌, None, not}
use Rattle.std.proofs.Common.{Option, refl, Some, subst, sym, true, ℕ}
use Rattle.std.proofs.lemmas.Bool.{ne_eqb, or_left}
use Rattle.std.proofs.lemmas.Option.{same_Some}
use Rattle.law_base.proofs.PiecesLemmas.Waits.{IsLoose, kept_for, opened}
use Rattle.law_outside.specs.Outside.{Shortening, Stretch}
use Rattle.law_promises.proofs.Spans.{Spans}
use Rattle.rbc_spec.proofs.Lists.{itself}
use Rattle.rbc_spec.specs.Centre.{Proposal}
use Rattle.rbc_spec.specs.Line.{end, is_home, Line, section_of_group}
use Rattle.rbc_spec.specs.LineCentre.{At, Given, is_given_to, Kept, LineMission, LineState, Mark, Open, Parted, release}
use Rattle.rbc_spec.specs.LineCentre.{Shut}
use Rattle.rbc_spec.specs.Maps.{has}
use Rattle.rbc_spec.specs.Place.{group_start, Place}
use Rattle.rbc_spec.specs.Sections.{is_on}

-- # The effect of a step on the hands of trains.

-- all hands stay as they are, and a shut section stays shut
pub record Stays (a b : ℕ → Mark) : Type 0 where
  pub hands : (u s : ℕ) → is_given_to u (b s) ≡ is_given_to u (a s)
  pub shut : (s : ℕ) → a s ≡ Shut → b s ≡ Shut

-- one train's hand is this then
pub record Moves (a b : ℕ → Mark) (t : ℕ) (k : ℕ → Bool) : Type 0 where
  pub here : (s : ℕ) → is_given_to t (b s) ≡ k s
  pub others : (u : ℕ) → (u ≡ t → ⊥) → (s : ℕ) → is_given_to u (b s) ≡ is_given_to u (a s)
  pub shut : (s : ℕ) → a s ≡ Shut → b s ≡ Shut

pub by : {P : Type 0} (b : Bool) → (b ≡ true → P) → (b ≡ false → P) → P
by true f g = f refl
by false f g = g refl

pub if_true : {X : Type 0} (b : Bool) (x y : X) → b ≡ true → (if b then x else y) ≡ x
if_true true x y is = refl
if_true false x y is = cc

pub if_false : {X : Type 0} (b : Bool) (x y : X) → b ≡ false → (if b then x else y) ≡ y
if_false true x y is = cc
if_false false x y is = refl

loose_free : (m : Mark) (u : ℕ) → IsLoose m → is_given_to u m ≡ false
loose_free m u (opened is) = ap (is_given_to u) is
loose_free m u (kept_for t is) = ap (is_given_to u) is

loose_shut : {P : Type 0} (m : Mark) → IsLoose m → m ≡ Shut → P
loose_shut m (opened is) shut = let wrong : Open ≡ Shut = sym is ∙ shut in cc
loose_shut m (kept_for t is) shut = let wrong : Kept t ≡ Shut = sym is ∙ shut in cc

given_shut : {P : Type 0} (t : ℕ) (m : Mark) → is_given_to t m ≡ true → m ≡ Shut → P
given_shut t m given shut = let wrong : false ≡ true = sym (ap (is_given_to t) shut) ∙ given in cc

other_not : (t u : ℕ) (m : Mark) → (u ≡ t → ⊥) → is_given_to t m ≡ true → is_given_to u m ≡ false
other_not t u Shut apart given = cc
other_not t u Open apart given = cc
other_not t u (Kept x) apart given = cc
other_not t u (Given x) apart given = ne_eqb x u (λ same. apart (sym same ∙ eqb-true x t given))

-- only open and kept sections change, and none is given
pub loose_stays : (a b : ℕ → Mark) (f : ℕ → Bool) → ((s : ℕ) → f s ≡ false → b s ≡ a s)
    → ((s : ℕ) → f s ≡ true → IsLoose (a s)) → ((s u : ℕ) → f s ≡ true → is_given_to u (b s) ≡ false) → Stays a b
loose_stays a b f stay loose none = record {
  hands = λ u s. by (f s) (λ so. none s u so ∙ sym (loose_free (a s) u (loose s so)))
      (λ fails. ap (is_given_to u) (stay s fails));
  shut = λ s is. by (f s) (λ so. loose_shut (a s) (loose s so) is) (λ fails. stay s fails ∙ is);
}

pub plain_stays : (a b : ℕ → Mark) → ((s : ℕ) → b s ≡ a s) → Stays a b
plain_stays a b same = record { hands = λ u s. ap (is_given_to u) (same s); shut = λ s is. same s ∙ is }

-- open and kept sections are given to a train
pub given_moves : (a : ℕ → Mark) (t : ℕ) (f : ℕ → Bool) → ((s : ℕ) → f s ≡ true → IsLoose (a s))
    → Moves a (λ s. if f s then Given t else a s) t (λ s. f s || is_given_to t (a s))
given_moves a t f loose = record {
  here = λ s. by (f s) (λ so. ap (is_given_to t) (if_true (f s) (Given t) (a s) so) ∙ itself t
      ∙ sym (or_left (f s) (is_given_to t (a s)) so))
      (λ fails. ap (is_given_to t) (if_false (f s) (Given t) (a s) fails)
      ∙ sym (ap (λ b. b || is_given_to t (a s)) fails));
  others = λ u apart s. by (f s)
      (λ so. ap (is_given_to u) (if_true (f s) (Given t) (a s) so) ∙ ne_eqb t u (λ same. apart (sym same))
      ∙ sym (loose_free (a s) u (loose s so)))
      (λ fails. ap (is_given_to u) (if_false (f s) (Given t) (a s) fails));
  shut = λ s is. by (f s) (λ so. loose_shut (a s) (loose s so) is) (λ fails. if_false (f s) (Given t) (a s) fails ∙ is);
}

-- sections of a hand are released
module _ (line : Line) (c t : ℕ) (f : ℕ → Bool) (v : LineState)
    (of_hand : (s : ℕ) → f s ≡ true → is_given_to t (v.mark s) ≡ true) where
  abbrev after : ℕ → Mark
  after = (release line c t f v).mark

  none_given : (u s : ℕ) → f s ≡ true → is_given_to u (after s) ≡ false
  none_given u s so = by_home (f s) (is_home line c s) (v.wish s) so
    where
      by_home : (b h w : Bool) → b ≡ true
          → is_given_to u (if b && h then (if w then Shut else Open) else (if b && not h then Kept t else v.mark s))
          ≡ false
      by_home true true true is = refl
      by_home true true false is = refl
      by_home true false w is = refl
      by_home false h w is = cc

  pub as_before : (s : ℕ) → f s ≡ false → after s ≡ v.mark s
  as_before s fails = by_home (f s) (is_home line c s) fails
    where
      by_home : (b h : Bool) → b ≡ false
          → (if b && h then (if v.wish s then Shut else Open) else (if b && not h then Kept t else v.mark s)) ≡ v.mark s
      by_home true h is = cc
      by_home false h is = refl

  and_not : (x y : Bool) → y ≡ false → x ≡ (x && not y)
  and_not true true is = cc
  and_not true false is = refl
  and_not false y is = refl

  and_no : (x y : Bool) → y ≡ true → false ≡ (x && not y)
  and_no true true is = refl
  and_no true false is = cc
  and_no false y is = refl

  pub released_moves : Moves v.mark after t (λ s. is_given_to t (v.mark s) && not (f s))
  released_moves = record {
    here = λ s. by (f s) (λ so. none_given t s so ∙ and_no (is_given_to t (v.mark s)) (f s) so)
        (λ fails. ap (is_given_to t) (as_before s fails) ∙ and_not (is_given_to t (v.mark s)) (f s) fails);
    others = λ u apart s. by (f s) (λ so. none_given u s so ∙ sym (other_not t u (v.mark s) apart (of_hand s so)))
        (λ fails. ap (is_given_to u) (as_before s fails));
    shut = λ s is. by (f s) (λ so. given_shut t (v.mark s) (of_hand s so) is) (λ fails. as_before s fails ∙ is);
  }

-- # The relation between the messages to a train and its mission.

-- the group of a place is on its track, and not past its front
pub record IsReported (line : Line) (place : Place) : Type 0 where
  pub group : has (is_on line place.track) (section_of_group line place.group) ≡ true
  pub ahead : 10 * group_start line place ≤ place.front

-- a pending request is the one that was sent last
pub record Asks (line : Line) (track : ℕ) (asked : Option Shortening) (c : ℕ) (p : Proposal) : Type 0 where
  pub is : asked ≡ Some (record { centre = c; stamp = p.stamp; end = end line p.last_kept })
  pub on : is_on line track p.last_kept ≡ true

-- a T_TRAIN is not past the last recorded one
pub record IsSince (n : ℕ) (heard : Option ℕ) : Type 0 where
  pub last : ℕ
  pub is : heard ≡ Some last
  pub le : n ≤ last

-- a stamp not past the first recorded one is not past the second
abbrev pub Later : Option ℕ → Option ℕ → Type 0
Later a b = (n : ℕ) → IsSince n a → IsSince n b

pub same_later : (a b : Option ℕ) → b ≡ a → Later a b
same_later a b is n h = record { last = h.last; is = is ∙ h.is; le = h.le }

-- the last message to the train is the one that the mission records
pub record Talk (line : Line) (m : LineMission) (x : Stretch) (heard : ℕ → Option ℕ) : Type 0 where
  pub asks : (c : ℕ) (p : Proposal) → m.supervisor ≡ At c → m.proposal ≡ Some p → Asks line m.place.track x.asked c p
  pub since : (c : ℕ) → m.supervisor ≡ At c → IsSince x.since (heard c)
  pub parted : (stamp : ℕ) → m.supervisor ≡ Parted stamp → (m.proposal ≡ None) × (x.since ≤ stamp)

-- of a mission
pub record Way (line : Line) (g : ℕ → Bool) (m : LineMission) (x : Stretch) (heard : ℕ → Option ℕ) : Type 0 where
  pub spans : Spans line g x
  pub track : x.track ≡ m.place.track
  pub one : ℕ
  pub given : g one ≡ true
  pub ahead : IsReported line m.place
  pub talk : Talk line m x heard

-- of a train
pub record Tied (line : Line) (g : ℕ → Bool) (mission : Option LineMission) (stretch : Option Stretch) (heard : ℕ
    → Option ℕ) : Type 0 where
  pub spans : (x : Stretch) → stretch ≡ Some x → Spans line g x
  pub gone : mission ≡ None → (s : ℕ) → g s ≡ false
  pub way : (m : LineMission) → mission ≡ Some m → (x : Stretch) × (stretch ≡ Some x) × Way line g m x heard

-- ## Relations that stay

none_of : (a b : Option Proposal) → ((p : Proposal) → b ≡ Some p → a ≡ Some p) → a ≡ None → b ≡ None
none_of a None same none = refl
none_of a (Some p) same none = let wrong : None ≡ Some p = sym none ∙ same p refl in cc

pub talk_as : (line : Line) (m n : LineMission) (x y : Stretch) (a b : ℕ → Option ℕ) → n.place.track ≡ m.place.track
    → n.supervisor ≡ m.supervisor → ((p : Proposal) → n.proposal ≡ Some p → m.proposal ≡ Some p)
    → y.asked ≡ x.asked → y.since ≡ x.since → ((c : ℕ) → Later (a c) (b c)) → Talk line m x a → Talk line n y b
talk_as line m n x y a b track supervisor proposals asked since later h = record {
  asks = λ c p at stands. let old = h.asks c p (sym supervisor ∙ at) (proposals p stands) in
      record { is = asked ∙ old.is; on = subst (λ (t : ℕ). is_on line t p.last_kept ≡ true) (sym track) old.on };
  since = λ c at. subst (λ (n : ℕ). IsSince n (b c)) (sym since) (later c x.since (h.since c (sym supervisor ∙ at)));
  parted = λ stamp at. let old = h.parted stamp (sym supervisor ∙ at) in
      (none_of m.proposal n.proposal proposals old.0, subst (λ (n : ℕ). n ≤ stamp) (sym since) old.1);
}

pub no_later : (a : ℕ → Option ℕ) (c : ℕ) → Later (a c) (a c)
no_later a c n h = h

-- the relation holds of equal parts too
pub tied_as : (line : Line) (g k : ℕ → Bool) (m n : Option LineMission) (o p : Option Stretch) (a b : ℕ → Option ℕ)
    → ((s : ℕ) → k s ≡ g s) → n ≡ m → p ≡ o → ((c : ℕ) → Later (a c) (b c)) → Tied line g m o a → Tied line k n p b
tied_as line g k m n o p a b hands mission stretch later h =
    let one = subst (λ (f : ℕ → Bool). Tied line f m o a) (λ i s. sym (hands s) i) h in
    let two = subst (λ (x : Option LineMission). Tied line k x o a) (sym mission) one in
    let three = subst (λ (x : Option Stretch). Tied line k n x a) (sym stretch) two in
    record {
      spans = three.spans;
      gone = three.gone;
      way = λ m is. let w = three.way m is in (
        w.0,
        w.1,
        record {
          spans = w.2.spans;
          track = w.2.track;
          one = w.2.one;
          given = w.2.given;
          ahead = w.2.ahead;
          talk = talk_as line m m w.0 w.0 a b refl refl (λ p stands. stands) refl refl later w.2.talk;
        },
      );
    }

pub under_way : (line : Line) (g : ℕ → Bool) (m : LineMission) (x : Stretch) (heard : ℕ → Option ℕ)
    → Way line g m x heard → Tied line g (Some m) (Some x) heard
under_way line g m x heard w = record {
  spans = λ y is. subst (Spans line g) (same_Some x y is) w.spans;
  gone = λ is. cc;
  way = λ n is. (x, refl, subst (λ (k : LineMission). Way line g k x heard) (same_Some m n is) w);
}

pub not_under_way : (line : Line) (g : ℕ → Bool) (stretch : Option Stretch) (heard : ℕ → Option ℕ)
    → ((x : Stretch) → stretch ≡ Some x → Spans line g x) → ((s : ℕ) → g s ≡ false) → Tied line g None stretch heard
not_under_way line g stretch heard spans none = record { spans = spans; gone = λ _. none; way = λ m is. cc }

-- the mission after a change, if some section is left
pub data Left (k : ℕ → Bool) (n : LineMission) : Option LineMission → Type 0 where
  some_left : (one : ℕ) → k one ≡ true → Left k n (Some n)
  none_left : ((s : ℕ) → k s ≡ false) → Left k n None

-- Laws of acts, of an end of mission at standstill, and of the events of a world.
use Rattle.std.proofs.Common.{[], ◌*◌, ◌++◌, ◌+◌, ◌-◌, ◌<◌, ◌==◌, ◌||◌, ◌∙◌, ◌∷◌, ◌≡◌, ◌≢◌, ◌≤◌, All, ap, arith, Bool}
use Rattle.std.proofs.Common.{Err, false, if◌then◌else◌, List, nat_lt, None, Ok, Option, refl, Result, slice_get, Some}
use Rattle.std.proofs.Common.{subst, suc, true, zero, ℕ}
use Rattle.std.proofs.lemmas.Bool.{eqb-false, or_parts}
use Rattle.std.proofs.lemmas.List.{append-nil}
use Rattle.std.proofs.lemmas.List.Elements.{All-cons, All-head, All-nil, All-tail}
use Rattle.std.proofs.lemmas.Option.{same_Some}
use Rattle.std.specs.Option.{option_map_or}
use Rattle.rbc_spec.proofs.Lists.{each_at}
use Rattle.rbc_spec.proofs.Runs.{longest_is}
use Rattle.rbc_spec.specs.Acts.{◌>>◌, Act, Reply, rest}
use Rattle.rbc_spec.specs.Centre.{Centre, Mission}
use Rattle.rbc_spec.specs.Frame.{Body, Frame}
use Rattle.rbc_spec.specs.Line.{is_centre, Line, start}
use Rattle.rbc_spec.specs.Maps.{put}
use Rattle.rbc_spec.specs.Message.{TrainMessage}
use Rattle.rbc_spec.specs.Place.{Place, place_on, Position}
use Rattle.rbc_spec.specs.Rules.{cut, cut_ahead, reached, stand_still}
use Rattle.rbc_spec.specs.Step as centre
use Rattle.rbc_spec.specs.Step.{numbered, Refusal, refusal, step, taken}
use Rattle.rbc_spec.specs.World.{◌>>=◌, Answer, Answered, at_centre, Bytes, Delivery, Event, Fault, frame_sent, mention}
use Rattle.rbc_spec.specs.World.{NoCentre, NotSent, Set, stepped, takes, Unset, World, world_run, world_step}

-- # Laws of one act after another.

-- to rest before or after an act changes nothing
pub rest_then : (act : Act) (k : Centre) → (rest >> act) k ≡ act k
unfolding ◌>>◌
rest_then act k = refl

pub then_rest : (act : Act) (k : Centre) → (act >> rest) k ≡ act k
unfolding ◌>>◌
then_rest act k = λ i. record {
  state = (act k).state;
  frames = λ d. append-nil ((act k).frames d) i;
  sayings = append-nil (act k).sayings i;
  words = append-nil (act k).words i;
}

-- acts that are alike at a state, and then the same act, or an act and then such ones
pub alike_then : (a b act : Act) (k : Centre) → a k ≡ b k → (a >> act) k ≡ (b >> act) k
unfolding ◌>>◌
alike_then a b act k e =
    ap (λ (r : Reply).
    record {
      state = (act r.state).state;
      frames = λ d. r.frames d ++ (act r.state).frames d;
      sayings = r.sayings
          ++ (act r.state).sayings;
      words = r.words ++ (act r.state).words;
    }) e

pub then_alike : (act a b : Act) (k : Centre) → a (act k).state ≡ b (act k).state → (act >> a) k ≡ (act >> b) k
unfolding ◌>>◌
then_alike act a b k e =
    ap (λ (r : Reply).
    record {
      state = r.state;
      frames = λ d. (act k).frames d ++ r.frames d;
      sayings = (act k).sayings ++ r.sayings;
      words = (act k).words ++ r.words;
    }) e

-- an act followed by one that does nothing in the state after it
pub then_resting : (act a : Act) (k : Centre) → a (act k).state ≡ rest (act k).state → (act >> a) k ≡ act k
then_resting act a k e = then_alike act a rest k e ∙ then_rest act k

pub resting_then : (a act : Act) (k : Centre) → a k ≡ rest k → (a >> act) k ≡ act k
resting_then a act k e = alike_then a rest act k e ∙ rest_then act k

-- # An end of mission at standstill: the sections ahead are cut off the hand, or nothing is done.

pub reached_few : (line : Line) (place : Place) (m : Mission) → reached line place m ≤ m.hand.count
reached_few line place m = (longest_is (λ s. nat_lt (10 * start line s) place.front) m.hand.first m.hand.count).fits

-- a property of the act holds if it holds of no act, and of each cut after some of the first sections of the hand
pub rests_or_cuts : (P : Act → Type 0) (line : Line) (c t : ℕ) (position : Position) (m : Mission) → P rest
    → ((n : ℕ) → n ≢ 0 → n < m.hand.count → P (cut line c t (m.hand.first + n - 1) m))
    → P (stand_still line c t position m)
rests_or_cuts P line c t position m rests cuts = by_speed (position.v_train == 0)
  where
    by_reach : (place : Place) (b : Bool) → ((reached line place m == 0) || (reached line place m == m.hand.count)) ≡ b
        → P (if b then rest else cut line c t (m.hand.first + reached line place m - 1) m)
    by_reach place true all = rests
    by_reach place false part =
        let both = or_parts (reached line place m == 0) (reached line place m == m.hand.count) part in
        let other = eqb-false (reached line place m) m.hand.count both.1 in
        let few = reached_few line place m in
        cuts (reached line place m) (eqb-false (reached line place m) 0 both.0) (omega (arith, few, other))

    by_place : (o : Option Place) → P (option_map_or (cut_ahead line c t m) o rest)
    by_place None = rests
    by_place (Some place) = by_reach place ((reached line place m == 0) || (reached line place m == m.hand.count)) refl

    by_speed : (b : Bool)
        → P (if b then option_map_or (cut_ahead line c t m) (place_on line m.place.track position) rest else rest)
    by_speed true = by_place (place_on line m.place.track position)
    by_speed false = rests

-- # The effect of each event of a world: a step of one centre, or nothing. Invariants of a run follow from those of
-- events.

-- the step of a centre that an event causes, and the trains that are named after it
pub data Brings (line : Line) (w : World) : Event → ℕ → centre.Event → List ℕ → Type 0 where
  says : (c : ℕ) (m : TrainMessage) → is_centre line c ≡ true
      → Brings line w (Bytes c (Ok m)) c (centre.Train m) (mention line m.nid_engine w.trains)
  sets : (c s : ℕ) → is_centre line c ≡ true → Brings line w (Set c s) c (centre.Set s) w.trains
  unsets : (c s : ℕ) → is_centre line c ≡ true → Brings line w (Unset c s) c (centre.Unset s) w.trains
  delivers : (a b number : ℕ) (f : Frame) → frame_sent w a b number ≡ Some f
      → Brings line w (Delivery a b number) b (centre.Deliver a f) w.trains

-- the answers that change nothing
pub data IsIdle : Answer → Type 0 where
  no_centre : IsIdle NoCentre
  not_sent : IsIdle NotSent
  faulty : (number : ℕ) → IsIdle (Fault number)

pub same_ok : {X : Type 0} (x y : X) → ◌≡◌ {A = Result X Refusal} (Ok x) (Ok y) → x ≡ y
same_ok x y is = cc

-- P holds of each event at a world, its answer and the world after it. Premises: it holds of each answer that changes
-- nothing, and of each step.
module _ (line : Line) (w : World) (P : Event → Answer → World → Type 0)
    (still : (event : Event) (answer : Answer) → IsIdle answer → P event answer w)
    (steps : (event : Event) (c : ℕ) (own : centre.Event) (trains : List ℕ) → Brings line w event c own trains
    → refusal line c (w.at c) own ≡ None
    → P event (Answered (taken line c own (w.at c)).0)
    (record { at = put w.at c (taken line c own (w.at c)).1; trains = trains })) where
  abbrev Leaves : Event → Result (Answer × World) Refusal → Type 0
  Leaves event r = (answer : Answer) (new : World) → r ≡ Ok (answer, new) → P event answer new

  leaves : (event : Event) (answer : Answer) (new : World) → P event answer new → Leaves event (Ok (answer, new))
  leaves event answer new is other last same =
      subst (λ (x : Answer × World). P event x.0 x.1) (same_ok (answer, new) (other, last) same) is

  takes_leaves : (event : Event) (c : ℕ) (own : centre.Event) (trains : List ℕ) → Brings line w event c own trains
      → Leaves event (takes line w c trains own)
  unfolding step
  takes_leaves event c own trains brings = by_refusal (refusal line c (w.at c) own) refl
    where
      by_refusal : (o : Option Refusal) → refusal line c (w.at c) own ≡ o
          → Leaves event (stepped w c trains (option_map_or (λ why. Err why) o (Ok (taken line c own (w.at c)))))
      by_refusal (Some why) is answer new same = cc
      by_refusal None is answer new same = leaves event _ _ (steps event c own trains brings is) answer new same

  at_leaves : (event : Event) (c : ℕ) (done : Result (Answer × World) Refusal)
      → (is_centre line c ≡ true → Leaves event done) → Leaves event (at_centre line w c done)
  at_leaves event c done here = by_centre (is_centre line c) refl
    where
      by_centre : (b : Bool) → is_centre line c ≡ b → Leaves event (if b then done else Ok (NoCentre, w))
      by_centre true is = here is
      by_centre false is = leaves event NoCentre w (still event NoCentre no_centre)

  delivery_leaves : (a b number : ℕ) (o : Option Frame) → frame_sent w a b number ≡ o
      → Leaves (Delivery a b number)
      (option_map_or (λ f. takes line w b w.trains (centre.Deliver a f)) o (Ok (NotSent, w)))
  delivery_leaves a b number None is =
      leaves (Delivery a b number) NotSent w (still (Delivery a b number) NotSent not_sent)
  delivery_leaves a b number (Some f) is =
      takes_leaves (Delivery a b number) b (centre.Deliver a f) w.trains (delivers a b number f is)

  pub of_event : (event : Event) (answer : Answer) (new : World) → world_step line w event ≡ Ok (answer, new)
      → P event answer new
  unfolding world_step
  of_event (Bytes c (Ok m)) =
      at_leaves (Bytes c (Ok m)) c _ (λ to. takes_leaves (Bytes c (Ok m)) c (centre.Train m)
      (mention line m.nid_engine w.trains) (says c m to))
  of_event (Bytes c (Err number)) = at_leaves (Bytes c (Err number)) c _
      (λ to. leaves (Bytes c (Err number)) (Fault number) w
      (still (Bytes c (Err number)) (Fault number) (faulty number)))
  of_event (Set c s) = at_leaves (Set c s) c _ (λ to. takes_leaves (Set c s) c (centre.Set s) w.trains (sets c s to))
  of_event (Unset c s) =
      at_leaves (Unset c s) c _ (λ to. takes_leaves (Unset c s) c (centre.Unset s) w.trains (unsets c s to))
  of_event (Delivery a b number) = delivery_leaves a b number (frame_sent w a b number) refl

-- the frames of a step have consecutive numbers
pub numbered_at : (stamp n : ℕ) (bodies : List Body) (i : ℕ) (f : Frame)
    → slice_get (numbered stamp n bodies) i ≡ Some f → f.number ≡ n + i + 1
numbered_at stamp n [] i f is = cc
numbered_at stamp n (b ∷ bs) zero f is =
    omega (arith, ap (λ (g : Frame). g.number) (same_Some (record { number = n + 1; stamp = stamp; body = b }) f is))
numbered_at stamp n (b ∷ bs) (suc i) f is = omega (arith, numbered_at stamp (n + 1) bs i f is)

-- a property of each sent frame holds of one of them
pub of_sent : (P : Frame → Type 0) (w : World) (a b number : ℕ) (f : Frame) → All P ((w.at a).sent b)
    → frame_sent w a b number ≡ Some f → P f
of_sent P w a b number f all is = by_number (number == 0) is
  where
    by_number : (z : Bool) → (if z then None else slice_get ((w.at a).sent b) (number - 1)) ≡ Some f → P f
    by_number true e = cc
    by_number false e = each_at P ((w.at a).sent b) (number - 1) f all e

-- ## A run

pub bind_ok : {A B : Type 0} (r : Result A Refusal) (next : A → Result B Refusal) (y : B) → (r >>= next) ≡ Ok y
    → (x : A) × (r ≡ Ok x) × (next x ≡ Ok y)
bind_ok (Ok x) next y is = (x, refl, is)
bind_ok (Err why) next y is = cc

-- a run of fitting events keeps an invariant of each event, and a property of each answer holds of all answers
module _ (line : Line) (Fits : Event → Type 0) (Q : World → Type 0) (S : Answer → Type 0)
    (steps : (w : World) → Q w → (event : Event) → Fits event → (answer : Answer) (new : World)
    → world_step line w event ≡ Ok (answer, new) → Q new × S answer) where
  pub of_run : (events : List Event) → All Fits events → (w : World) → Q w → (answers : List Answer) (last : World)
      → world_run line w events ≡ Ok (answers, last) → Q last × All S answers
  unfolding world_run
  of_run [] fit w old answers last is = subst (λ (x : List Answer × World). Q x.1
      × All S x.0) (same_ok ([], w) (answers, last) is) (old, All-nil S)
  of_run (event ∷ events) fit w old answers last is =
      let first = bind_ok (world_step line w event) _ (answers, last) is in
      let others = bind_ok (world_run line first.0.1 events) _ (answers, last) first.2 in
      let now = steps w old event (All-head Fits event events fit) first.0.0 first.0.1 first.1 in
      let later = of_run events (All-tail Fits event events fit) first.0.1 now.0 others.0.0 others.0.1 others.1 in
      subst (λ (x : List Answer × World). Q x.1 × All S x.0)
      (same_ok (first.0.0 ∷ others.0.0, others.0.1) (answers, last) others.2)
      (later.0, All-cons S first.0.0 others.0.0 now.1 later.1)

-- of any events, and with nothing asked of the answers
module _ (line : Line) (Q : World → Type 0) (steps : (w : World) → Q w → (event : Event) (answer : Answer) (new : World)
    → world_step line w event ≡ Ok (answer, new) → Q new) where
  any : (events : List Event) → All (λ e. Unit {0}) events
  any [] = All-nil (λ e. Unit {0})
  any (event ∷ events) = All-cons (λ e. Unit {0}) event events tt (any events)

  pub keeps_run : (events : List Event) (w : World) → Q w → (answers : List Answer) (last : World)
      → world_run line w events ≡ Ok (answers, last) → Q last
  keeps_run events w old answers last is =
      (of_run line (λ e. Unit {0}) Q (λ a. Unit {0})
      (λ v so event fits answer new went. (steps v so event answer new went, tt)) events
      (any events) w old answers last is).0

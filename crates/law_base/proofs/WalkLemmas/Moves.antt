use Rattle.std.proofs.Common.{[], ◌&&◌, ◌++◌, ◌+◌, ◌-◌, ◌≡◌, ◌≤◌, Bool, false, if◌then◌else◌, is_none, is_some, min}
use Rattle.std.proofs.Common.{nat_lt, None, Option, option_map, refl, Some, true, ℕ}
use Rattle.std.specs.Option.{option_map_or}
use Rattle.law_base.proofs.WalkLemmas.Causes.{Change, Expects, hand_to, has_place_for_route, Hears, IsAhead, May}
use Rattle.law_base.proofs.WalkLemmas.Causes.{MaySend, Starts, to_some, Turn}
use Rattle.rbc_spec.specs.Acts.{◌>>◌, Act, become, booked, change_mission, freed, part_at, Reply, rest, returned, say}
use Rattle.rbc_spec.specs.Acts.{send, set_mission, where_so, with_some}
use Rattle.rbc_spec.specs.Centre.{Centre, Entry, Expectation, Handing, is_open, is_out_for, is_registrar_of}
use Rattle.rbc_spec.specs.Centre.{is_taken_for, Mission, Out, Phase, Taken}
use Rattle.rbc_spec.specs.Frame.{Announce, AskRight, Body, Cancel, GiveRight, RefuseRight, RouteAsk, RouteInfo, Yield}
use Rattle.rbc_spec.specs.Frame.{yielded_place}
use Rattle.rbc_spec.specs.Line.{is_home, Line, registrar, section}
use Rattle.rbc_spec.specs.Links.{answered_ask, expect, lendable}
use Rattle.rbc_spec.specs.Maps.{put}
use Rattle.rbc_spec.specs.Message.{TrackBody}
use Rattle.rbc_spec.specs.Outcome.{Word}
use Rattle.rbc_spec.specs.Place.{covered, Place}
use Rattle.rbc_spec.specs.Rules.{set_phase, take_over, tell}
use Rattle.rbc_spec.specs.SectionRuns.{is_empty, most_in_hand, next_after, SectionRun}
use Rattle.rbc_spec.specs.Step.{make, withdraw}

abbrev pub no_handover : Mission → Mission
no_handover m = record m { handing = None }

-- the small moves of centre c, in an event that began in state `was` and has these permissions
pub data Move (line : Line) (c : ℕ) (may : May) (was : Centre) : Centre → Reply → Type 0 where
  rests : (k : Centre) → Move line c may was k (rest k)
  says : (t group : ℕ) (body : TrackBody) (k : Centre) → Move line c may was k (say t group body k)
  sends : (d : ℕ) (body : Body) (k : Centre) → MaySend line c may d body → Move line c may was k (send d body k)
  tells : (word : Word) (k : Centre) → may.speaks ≡ true → Move line c may was k (tell word k)
  -- no more sections than the mission has
  returns : (t track : ℕ) (r : SectionRun) (m : Mission) (k : Centre) → may.train ≡ Some t → k.mission t ≡ Some m
      → r.count ≤ m.hand.count + m.pool.count → Move line c may was k (returned line c t track r k)
  withdraws : (t s : ℕ) (k : Centre) → is_home line c s ≡ true → k.book s ≡ Out t
      → Move line c may was k (withdraw line c t s k)
  takes_over : (t : ℕ) (k : Centre) → may.train ≡ Some t → Move line c may was k (take_over line t k)
  books : (is_meant : Entry → Bool) (t : ℕ) (r : SectionRun) (k : Centre)
      → Move line c may was k (booked is_meant (Taken t) r k)
  lends : (is_meant : Entry → Bool) (t : ℕ) (r : SectionRun) (k : Centre) → may.train ≡ Some t
      → Move line c may was k (booked is_meant (Out t) r k)
  frees : (is_meant : Entry → Bool) (r : SectionRun) (k : Centre) → may.speaks ≡ true
      → Move line c may was k (freed line c is_meant r k)
  makes : (s : ℕ) (entry : Entry) (wish : Bool) (k : Centre) → ((t : ℕ) → is_out_for t entry ≡ false)
      → Move line c may was k (make s entry wish k)
  wishes : (s : ℕ) (wish : Bool) (k : Centre)
      → Move line c may was k (become (λ j. record j { wish = put j.wish s wish }) k)
  expects : (d t : ℕ) (e : Option Expectation) (k : Centre) → may.expects ≡ true → Expects may d t e
      → Move line c may was k (expect d t e k)
  hears : (t : ℕ) (x : Option ℕ) (k : Centre) → Hears may t k x
      → Move line c may was k (become (λ j. record j { heard = put j.heard t x }) k)
  phases : (t : ℕ) (phase : Phase) (k : Centre) → Move line c may was k (set_phase t phase k)
  waits : (t : ℕ) (place : Place) (k : Centre) → Starts line may.cause place → k.has_asked t ≡ true
      → Move line c may was k (become (λ j. record j { wait = put j.wait t (Some place) }) k)
  waits_no_more : (t : ℕ) (k : Centre) → Move line c may was k (become (λ j. record j { wait = put j.wait t None }) k)
  rights : (t : ℕ) (here : Bool) (k : Centre)
      → Move line c may was k (become (λ j. record j { has_right = put j.has_right t here }) k)
  -- a start waits, and the right is asked for
  asks_right : (t : ℕ) (place : Place) (to : Option ℕ) (k : Centre) → may.train ≡ Some t → Starts line may.cause place
      → is_registrar_of line c t ≡ false → registrar line t ≡ to → k.has_asked t ≡ false
      → Move line c may was k (record {
        state = record k { wait = put k.wait t (Some place); has_asked = put k.has_asked t true };
        frames = λ e. to_some to (AskRight t) e ++ [];
        sayings = [];
        words = [];
      })
  -- sections in advance of the hand are asked for, of the home of the first
  asks_route : (t d : ℕ) (m : Mission) (k : Centre) → may.train ≡ Some t → k.mission t ≡ Some m → is_empty m.pool ≡ true
      → is_home line d (next_after m.hand) ≡ true → k.route_ask t ≡ None
      → IsAhead line c may d → nat_lt m.hand.count most_in_hand ≡ true
      → Move line c may was k (record {
        state = record k { route_ask = put k.route_ask t (Some (next_after m.hand)) };
        frames = λ e. to_some (Some d)
            (RouteAsk t (next_after m.hand) (min (most_in_hand - m.hand.count) (512 - next_after m.hand))) e ++ [];
        sayings = [];
        words = [];
      })
  -- a handover to d is announced, if none is pending
  announces : (t d : ℕ) (m : Mission) (k : Centre) → may.train ≡ Some t → may.announces ≡ true → k.mission t ≡ Some m
      → m.handing ≡ None → IsAhead line c may d → k.announced ≡ was.announced
      → Move line c may was k (record {
        state = record k {
          announced = k.announced + 1;
          mission = put k.mission t (option_map (hand_to d (k.announced + 1)) (k.mission t));
        };
        frames = λ e. (to_some (Some d) (Announce (k.announced + 1) t m.place.track) e ++ []) ++ [];
        sayings = [];
        words = [];
      })
  -- a handover is cancelled, if the hand has no section of the next centre
  recalls : (t : ℕ) (m : Mission) (h : Handing) (k : Centre) → may.train ≡ Some t → k.mission t ≡ Some m
      → m.handing ≡ Some h → is_empty (part_at line h.to m.place.track m.hand) ≡ true
      → Move line c may was k
      (record {
        state = (change_mission t no_handover k).state;
        frames = λ e. to_some (Some h.to) (Cancel h.number t) e ++ [];
        sayings = [];
        words = [];
      })
  -- a mission closes, and its handover with it
  closes : (t : ℕ) (m : Mission) (k : Centre) → k.mission t ≡ Some m → m.handing ≡ None
      → Move line c may was k (set_mission t None k)
  closes_handed : (t : ℕ) (m : Mission) (h : Handing) (k : Centre) → may.train ≡ Some t
      → k.mission t ≡ Some m → m.handing ≡ Some h
      → Move line c may was k (record {
        state = (change_mission t no_handover (set_mission t None k).state).state;
        frames = λ e. to_some (Some h.to) (Cancel h.number t) e ++ [];
        sayings = [];
        words = [];
      })
  -- a mission goes to the centre that it was announced to
  yields : (t : ℕ) (m : Mission) (h : Handing) (k : Centre) → may.train ≡ Some t → may.yields ≡ Some h
      → k.mission t ≡ Some m → m.handing ≡ Some h
      → Move line c may was k (record {
        state = (set_mission t None k).state;
        frames = λ e. to_some (Some h.to) (Yield h.number t (option_map_or (λ n. n) (k.heard t) 0) m.has_data m.is_ended
            (yielded_place m.place) m.hand) e;
        sayings = [];
        words = [];
      })
  sets : (t : ℕ) (o : Option Mission) (k : Centre) → Turn line c may was t k o
      → Move line c may was k (set_mission t o k)
  changes : (t : ℕ) (f : Mission → Mission) (k : Centre) → Change line may was t k f
      → Move line c may was k (change_mission t f k)

-- one move after another
pub data Walk (line : Line) (c : ℕ) (may : May) (was : Centre) : Centre → Reply → Type 0 where
  one : (k : Centre) (q : Reply) → Move line c may was k q → Walk line c may was k q
  joined : (a b : Act) (k : Centre) → Walk line c may was k (a k) → Walk line c may was (a k).state (b (a k).state)
      → Walk line c may was k ((a >> b) k)

-- the immediate effect at centre c, in state `was`, of a frame of centre d that asks or answers
pub data Answer (line : Line) (c : ℕ) (may : May) (was : Centre) (d : ℕ) : Body → Reply → Type 0 where
  gives : (t : ℕ) → is_registrar_of line c t ≡ true → was.has_right t ≡ true
      → Answer line c may was d (AskRight t) (record {
        state = record was { has_right = put was.has_right t false };
        frames = λ e. to_some (Some d) (GiveRight t) e;
        sayings = [];
        words = [];
      })
  refuses : (t : ℕ) → is_registrar_of line c t ≡ true
      → Answer line c may was d (AskRight t) (send d (RefuseRight t) was)
  begins_at : (t : ℕ) (place : Place) → was.has_asked t ≡ true → was.wait t ≡ Some place → was.mission t ≡ None
      → Answer line c may was d (GiveRight t) (record {
        state = record was { has_asked = put was.has_asked t false; wait = put was.wait t None };
        frames = λ e. [];
        sayings = [];
        words = [];
      })
  -- nothing waits for the right, or the train has a mission
  not_needed : (t : ℕ) → was.has_asked t ≡ true → (is_some (was.wait t) && is_none (was.mission t)) ≡ false
      → Answer line c may was d (GiveRight t) (answered_ask t was)
  drops : (t : ℕ) (place : Place) → may.speaks ≡ true → was.has_asked t ≡ true → was.wait t ≡ Some place
      → Answer line c may was d (RefuseRight t) (record {
        state = record (freed line c (is_taken_for t) (covered line place) was).state
            { has_asked = put was.has_asked t false; wait = put was.wait t None };
        frames = λ e. [];
        sayings = [];
        words = (freed line c (is_taken_for t) (covered line place) was).words ++ [];
      })
  nothing_waits : (t : ℕ) → was.has_asked t ≡ true → was.wait t ≡ None
      → Answer line c may was d (RefuseRight t) (answered_ask t was)
  lends_some : (t first most : ℕ) → is_some (section line first) ≡ true
      → Answer line c may was d (RouteAsk t first most) (record {
        state = (booked is_open (Out t) (lendable line c was first most) was).state;
        frames = λ e. to_some (Some d) (RouteInfo t (lendable line c was first most)) e;
        sayings = [];
        words = [];
      })
  told : (t : ℕ) (r : SectionRun) → has_place_for_route line d r (was.route_ask t) ≡ true
      → Answer line c may was d (RouteInfo t r) (become (λ j. record j { route_ask = put j.route_ask t None }) was)

-- a property of each small move, and of two consecutive acts if it holds of both
pub record Closed (line : Line) (c : ℕ) (may : May) (was : Centre) (P : Centre → Reply → Type 0) : Type 0 where
  pub moves : (k : Centre) (q : Reply) → Move line c may was k q → P k q
  pub joins : (a b : Act) (k : Centre) → P k (a k) → P (a k).state (b (a k).state) → P k ((a >> b) k)

-- holds of each walk
pub of_walk : (line : Line) (c : ℕ) (may : May) (was : Centre) (P : Centre → Reply → Type 0) → Closed line c may was P
    → (k : Centre) (q : Reply) → Walk line c may was k q → P k q
of_walk line c may was P closed _ _ (one k q move) = closed.moves k q move
of_walk line c may was P closed _ _ (joined a b k first second) =
    closed.joins a b k (of_walk line c may was P closed k (a k) first)
    (of_walk line c may was P closed (a k).state (b (a k).state) second)

-- ## How walks are put together

module _ (line : Line) (c : ℕ) (may : May) (was : Centre) where
  -- an act is a walk from every state
  abbrev pub Walks : Act → Type 0
  Walks act = (k : Centre) → Walk line c may was k (act k)

  pub step : {k : Centre} {q : Reply} → Move line c may was k q → Walk line c may was k q
  step move = one _ _ move

  pub resting : Walks rest
  resting k = one k (rest k) (rests k)

  pub both : (a b : Act) → Walks a → Walks b → Walks (a >> b)
  both a b first second k = joined a b k (first k) (second (a k).state)

  pub by_bool : (b : Bool) (p q : Reply) (k : Centre) → (b ≡ true → Walk line c may was k p)
      → (b ≡ false → Walk line c may was k q) → Walk line c may was k (if b then p else q)
  by_bool true p q k yes_walk no_walk = yes_walk refl
  by_bool false p q k yes_walk no_walk = no_walk refl

  pub by_option : {X : Type 0} (o : Option X) (f : X → Reply) (q : Reply) (k : Centre)
      → ((x : X) → o ≡ Some x → Walk line c may was k (f x)) → Walk line c may was k q
      → Walk line c may was k (option_map_or f o q)
  by_option None f q k some none = none
  by_option (Some x) f q k some none = some x refl

  pub either : (b : Bool) (f g : Act) (k : Centre) → (b ≡ true → Walk line c may was k (f k))
      → (b ≡ false → Walk line c may was k (g k)) → Walk line c may was k ((if b then f else g) k)
  either true f g k yes_walk no_walk = yes_walk refl
  either false f g k yes_walk no_walk = no_walk refl

  pub branch : (b : Bool) (f g : Act) → Walks f → Walks g → Walks (if b then f else g)
  branch true f g yes_walk no_walk = yes_walk
  branch false f g yes_walk no_walk = no_walk

  pub if_some : {X : Type 0} (o : Option X) (f : X → Act) (g : Act) (k : Centre)
      → ((x : X) → o ≡ Some x → Walk line c may was k (f x k)) → Walk line c may was k (g k)
      → Walk line c may was k (option_map_or f o g k)
  if_some None f g k some none = none
  if_some (Some x) f g k some none = some x refl

  pub when : (test : Centre → Bool) (act : Act) → Walks act → Walks (where_so test act)
  when test act walks k = by_bool (test k) (act k) (rest k) k (λ so. walks k) (λ so. resting k)

  pub with : {X : Type 0} (value : Centre → Option X) (act : X → Act)
      → ((k : Centre) (x : X) → value k ≡ Some x → Walk line c may was k (act x k)) → Walks (with_some value act)
  with value act walks k = by_option (value k) (λ x. act x k) (rest k) k (walks k) (resting k)

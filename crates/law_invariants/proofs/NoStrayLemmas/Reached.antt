-- A Yield that is the next of its link is taken, and the laws of each reached world.
use Rattle.std.proofs.Common.{⊎_elim, ◌&&◌, ◌+◌, ◌-◌, ◌==◌, ◌∙◌, ◌≡◌, ◌⊎◌, ap, Bool, Err, false, if◌then◌else◌, is_none}
use Rattle.std.proofs.Common.{List, max, None, not, Ok, Option, option_map, refl, Some, subst, sym, true, ℕ}
use Rattle.std.proofs.lemmas.Bool.{and_parts}
use Rattle.std.proofs.lemmas.Option.{same_Some}
use Rattle.std.specs.List.{find, range_with_len}
use Rattle.std.specs.Option.{option_map_or}
use Rattle.law_base.proofs.LocalLemmas.Worlds.{world_of}
use Rattle.law_base.specs.Walk.Trains.{train_of}
use Rattle.law_invariants.proofs.NoStrayLemmas.Counts.{is_answered}
use Rattle.law_invariants.proofs.NoStrayLemmas.Worlds.{each_reached, frame_due, IsReachedSo}
use Rattle.law_invariants.specs.NoStray.Due.{IsDue, IsFrameDue, IsTakenOver}
use Rattle.law_invariants.specs.NoStray.Questions.{IsAnswered}
use Rattle.rbc_spec.proofs.Lists.{put_pair_there, put_there}
use Rattle.rbc_spec.proofs.Runs.{each_within}
use Rattle.rbc_spec.specs.Acts.{◌>>◌, become, booked, may_propose, propose, propose_if_so, Reply, rest, set_mission}
use Rattle.rbc_spec.specs.Centre.{Centre, is_out_for, Mission, Taken}
use Rattle.rbc_spec.specs.Frame.{Body, Frame, GiveRight, RefuseRight, RouteInfo, RouteReturn, Yield, yielded_place}
use Rattle.rbc_spec.specs.Frame.{YieldedPlace}
use Rattle.rbc_spec.specs.Line.{is_home, IsLine, Line}
use Rattle.rbc_spec.specs.Links.{expect, is_train, may_take, received, take_mission, yielded}
use Rattle.rbc_spec.specs.Maps.{has, put}
use Rattle.rbc_spec.specs.Outcome as outcome
use Rattle.rbc_spec.specs.Outcome.{Early, Next, NoLink, Old, Outcome}
use Rattle.rbc_spec.specs.Place.{Place}
use Rattle.rbc_spec.specs.SectionRuns.{no_run, SectionRun, within}
use Rattle.rbc_spec.specs.Step as centre
use Rattle.rbc_spec.specs.Step.{link_answer, Refusal, refusal, stamp_of, step, taken, taken_by, ticked}
use Rattle.rbc_spec.specs.World.{Answer, Delivery, Event, frame_sent, new_world, NotSent, stepped, takes, World}
use Rattle.rbc_spec.specs.World.{world_run, world_step}

-- # A Yield that is the next of its link is taken.

-- ## At the centre

-- the mission of the train is here with this place and hand, and it is not expected any more
pub record IsHere (a t : ℕ) (at : Place) (hand : SectionRun) (new : Centre) : Type 0 where
  pub mission : Mission
  pub is_here : new.mission t ≡ Some mission
  pub at_place : mission.place ≡ at
  pub with_hand : mission.hand ≡ hand
  pub ends : new.expects a t ≡ None

module _ (line : Line) (c a t : ℕ) (at : Place) (hand : SectionRun) where
  here_or : {X : Type 0} (o : Option X) (f : X → Reply) (q : Reply)
      → ((x : X) → o ≡ Some x → IsHere a t at hand (f x).state) → IsHere a t at hand q.state
      → IsHere a t at hand (option_map_or f o q).state
  here_or None f q some none = none
  here_or (Some x) f q some none = some x refl

  here_if : (b : Bool) (p q : Reply) → IsHere a t at hand p.state → IsHere a t at hand q.state
      → IsHere a t at hand (if b then p else q).state
  here_if true p q one two = one
  here_if false p q one two = two

  stays_proposed : (s : ℕ) (y : Centre) → IsHere a t at hand y → IsHere a t at hand (propose_if_so line t s y).state
  unfolding ◌>>◌
  stays_proposed s y here = here_or (y.mission t) _ (rest y)
      (λ m is. here_if (may_propose line t s m y) (propose line t s m y) (rest y)
      (record {
        mission = asks m here.mission;
        is_here = put_there y.mission t (option_map (asks m) (y.mission t)) ∙ ap (option_map (asks m)) here.is_here;
        at_place = here.at_place;
        with_hand = here.with_hand;
        ends = here.ends;
      })
      here)
      here
    where
      asks : Mission → Mission → Mission
      asks m n = record n { proposal = Some (record { stamp = y.said t + 1; last_kept = s - 1 }) }

  -- a mission that may be taken is
  pub yield_here : (number heard : ℕ) (has_data is_ended : Bool) (k : Centre)
      → may_take line c k a number t at hand ≡ true
      → IsHere a t at hand (yielded line c a number t hand heard has_data is_ended at k).state
  unfolding ◌>>◌
  yield_here number heard has_data is_ended k may =
      subst (λ b. IsHere a t at hand (if b then takes_it k else rest k).state) (sym may)
      (here_or (find (λ s. is_home line c s && k.wish s) (range_with_len hand.first hand.count))
      (λ s. propose_if_so line t s y) (rest y) (λ s found. stays_proposed s y taken_here) taken_here)
    where
      m : Mission
      m = record {
        place = at;
        hand = hand;
        pool = no_run;
        has_data = has_data;
        is_ended = is_ended;
        proposal = None;
        handing = None;
      }

      takes_it : Centre → Reply
      takes_it = take_mission line c a t heard m

      y : Centre
      y = (((booked (is_out_for t) (Taken t) hand >> set_mission t (Some m))
          >> (become (λ j. record j { heard = put j.heard t (Some (option_map_or (max heard) (j.heard t) heard)) })
          >> expect a t None)) k).state

      taken_here : IsHere a t at hand y
      taken_here =
          record {
            mission = m;
            is_here = put_there k.mission t (Some m);
            at_place = refl;
            with_hand = refl;
            ends = put_pair_there k.expects a t None;
          }

-- ## In a world

module _ (line : Line) (w : World) where
  stepped_at : (c : ℕ) (o : Option Refusal) (x : Outcome × Centre) (answer : Answer) (new : World)
      → stepped w c w.trains (option_map_or (λ why. Err why) o (Ok x)) ≡ Ok (answer, new) → new.at c ≡ x.1
  stepped_at c (Some why) x answer new is = cc
  stepped_at c None x answer new is = sym (ap (λ r. (world_of w r).at c) is) ∙ put_there w.at c x.1

  takes_at : (c : ℕ) (event : centre.Event) (answer : Answer) (new : World)
      → takes line w c w.trains event ≡ Ok (answer, new) → new.at c ≡ (taken line c event (w.at c)).1
  unfolding step
  takes_at c event answer new = stepped_at c (refusal line c (w.at c) event) (taken line c event (w.at c)) answer new

  -- the state of the receiver after a delivery
  pub delivered_at : (a b number : ℕ) (f : Frame) (answer : Answer) (new : World) → frame_sent w a b number ≡ Some f
      → world_step line w (Delivery a b number) ≡ Ok (answer, new)
      → new.at b ≡ (taken line b (centre.Deliver a f) (w.at b)).1
  unfolding world_step
  delivered_at a b number f answer new sent is = of_frame (frame_sent w a b number) sent is
    where
      of_frame : (o : Option Frame) → o ≡ Some f
          → option_map_or (λ g. takes line w b w.trains (centre.Deliver a g)) o (Ok (NotSent, w)) ≡ Ok (answer, new)
          → new.at b ≡ (taken line b (centre.Deliver a f) (w.at b)).1
      of_frame None none done = cc
      of_frame (Some g) same done = subst (λ h. new.at b ≡ (taken line b (centre.Deliver a h) (w.at b)).1)
          (same_Some g f same) (takes_at b (centre.Deliver a g) answer new done)

  module _ (a b number t heard : ℕ) (has_data is_ended : Bool) (at : Place) (hand : SectionRun) (f : Frame)
      (body : f.body ≡ Yield number t heard has_data is_ended (yielded_place at) hand)
      (next : link_answer line b (w.at b) a f ≡ Next) (known : is_train line t ≡ true)
      (may : may_take line b (w.at b) a number t at hand ≡ true) where
    received_here : (j : Centre) → may_take line b j a number t at hand ≡ true → (g : Body)
        → g ≡ Yield number t heard has_data is_ended (yielded_place at) hand
        → IsHere a t at hand (received line b a g j).state
    received_here j may_so g same = subst (λ h. IsHere a t at hand (received line b a h j).state) (sym same)
        (subst (λ z. IsHere a t at hand ((if z then yielded line b a number t hand heard has_data is_ended at else rest)
        j).state) (sym known) (yield_here line b a t at hand number heard has_data is_ended j may_so))

    by_answer : (o : outcome.Taken) → o ≡ Next
        → IsHere a t at hand (taken_by line b a f o (ticked (stamp_of (w.at b) (centre.Deliver a f)) (w.at b))).state
    unfolding ◌>>◌
    by_answer Next is =
        let here =
        received_here
        (record (w.at b) { clock = stamp_of (w.at b) (centre.Deliver a f); taken = put (w.at b).taken a f.number })
        may f.body body in
        record {
          mission = here.mission;
          is_here = here.is_here;
          at_place = here.at_place;
          with_hand = here.with_hand;
          ends = here.ends;
        }
    by_answer Old is = cc
    by_answer Early is = cc
    by_answer NoLink is = cc

    -- a Yield that may be taken
    pub yield_taken : IsTakenOver a number t at hand (w.at b) (taken line b (centre.Deliver a f) (w.at b)).1
    yield_taken =
        let here = by_answer (link_answer line b (w.at b) a f) next in
        let one = and_parts (has (λ e. (e.number == number) && e.is_taking) ((w.at b).expects a t)
        && (is_none ((w.at b).mission t) && not ((w.at b).has_right t))) _ may in
        record {
          expected =
              (and_parts (has (λ e. (e.number == number) && e.is_taking) ((w.at b).expects a t))
              (is_none ((w.at b).mission t) && not ((w.at b).has_right t)) one.0).0;
          mission = here.mission;
          is_here = here.is_here;
          at_place = here.at_place;
          with_hand = here.with_hand;
          ends = here.ends;
        }

-- # Properties of each world after a list of events.

module _ (line : Line) (ok : IsLine line) (events : List Event) (outcomes : List Answer) (w : World)
    (is : world_run line (new_world line) events ≡ Ok (outcomes, w)) where
  reached : IsReachedSo line w
  reached = each_reached line ok events outcomes w is

  module _ (a b number : ℕ) (f : Frame) (sent : frame_sent w a b number ≡ Some f)
      (next : link_answer line b (w.at b) a f ≡ Next) where
    pub due : IsFrameDue line w a b f
    due = frame_due line ok w reached.sound reached.asked reached.answered a b number f sent next

    due_as : (body : Body) → f.body ≡ body → IsDue line a b (w.at b) body
    due_as body same = subst (IsDue line a b (w.at b)) same due.due

    pub right_asked : (t : ℕ) → (f.body ≡ GiveRight t) ⊎ (f.body ≡ RefuseRight t) → (w.at b).has_asked t ≡ true
    right_asked t = ⊎_elim (λ (gives : f.body ≡ GiveRight t). (due_as (GiveRight t) gives).0)
        (λ (refuses : f.body ≡ RefuseRight t). due_as (RefuseRight t) refuses)

    pub route_asked : (t : ℕ) (r : SectionRun) → f.body ≡ RouteInfo t r → ((w.at b).route_ask t ≡ Some r.first)
        × (is_home line a r.first ≡ true) × ((s : ℕ) → within r s ≡ true → is_home line a s ≡ true)
    route_asked t r tells = let it = due_as (RouteInfo t r) tells in (it.0, it.2, each_within (is_home line a) r it.3)

    pub home_out : (t s : ℕ) (r : SectionRun) → f.body ≡ RouteReturn t r → within r s ≡ true → (is_home line b s ≡ true)
        × (is_out_for t ((w.at b).book s) ≡ true)
    home_out t s r brings in_run = and_parts (is_home line b s) (is_out_for t ((w.at b).book s))
        (each_within (λ e. is_home line b e && is_out_for t ((w.at b).book e)) r
        (due_as (RouteReturn t r) brings).1 s in_run)

    pub taken_over : (t heard n : ℕ) (has_data is_ended : Bool) (carried : YieldedPlace) (hand : SectionRun)
        → f.body ≡ Yield n t heard has_data is_ended carried hand
        → (answer : Answer) (new : World) → world_step line w (Delivery a b number) ≡ Ok (answer, new) → (place : Place)
        × (carried ≡ yielded_place place) × IsTakenOver a n t place hand (w.at b) (new.at b)
    taken_over t heard n has_data is_ended carried hand hands answer new done = (
      it.0,
      it.1,
      subst (IsTakenOver a n t it.0 hand (w.at b)) (sym (delivered_at line w a b number f answer new sent done))
          (yield_taken line w a b n t heard has_data is_ended it.0 hand f body next known it.2),
    )
      where
        it : (place : Place) × (carried ≡ yielded_place place) × (may_take line b (w.at b) a n t place hand ≡ true)
        it = due_as (Yield n t heard has_data is_ended carried hand) hands

        body : f.body ≡ Yield n t heard has_data is_ended (yielded_place it.0) hand
        body = hands ∙ ap (λ p. Yield n t heard has_data is_ended p hand) it.1

        known : is_train line t ≡ true
        known = subst (λ g. is_train line (train_of g) ≡ true) hands due.known

  -- ## Questions

  pub answered_so : IsAnswered line w
  answered_so = is_answered line w reached.answered

-- The frames of a step on a link, with its messages and replies.
use Rattle.std.proofs.Common.{◌&&◌, ◌+◌, ◌≤◌, arith, Bool, false, if◌then◌else◌, is_none, is_some, length, max, nat_lt}
use Rattle.std.proofs.Common.{None, not, Option, refl, Some, true, ℕ}
use Rattle.std.specs.List.{find, range_with_len}
use Rattle.std.specs.Option.{option_map_or}
use Rattle.law_base.proofs.RulesLemmas.Sends.{Sends, sends_none, sends_quiet, sends_then, side_below}
use Rattle.law_base.proofs.RulesLemmas.SentActs.{end_order_sends, freed_sends, home_any, over_sends, propose_sends}
use Rattle.law_base.proofs.RulesLemmas.SentActs.{right_sends, sends_one}
use Rattle.law_base.proofs.RulesLemmas.SentFrames.{drop_few, Few, few, few_if, quiet}
use Rattle.law_base.proofs.RulesLemmas.SentSteps.{some_sends, where_sends}
use Rattle.law_base.specs.Rules.Sending.{BringsFew, GoInOrder, HoldsFew}
use Rattle.law_base.specs.Walk.Trains.{train_of}
use Rattle.rbc_spec.specs.Acts.{◌>>◌, Act, become, booked, change_mission, end_order, freed, propose_if_so, Reply, rest}
use Rattle.rbc_spec.specs.Acts.{returned, send, set_mission, where_so, with_some}
use Rattle.rbc_spec.specs.Centre.{Centre, is_expected, is_open, is_out_for, Mission, Out, Taken, uses_some}
use Rattle.rbc_spec.specs.Frame.{Announce, AskRight, Body, Cancel, carried_place, Frame, GiveRight, RefuseRight}
use Rattle.rbc_spec.specs.Frame.{ReturnRight, RouteAsk, RouteInfo, RouteReturn, RouteWithdraw, TakingOver, Yield}
use Rattle.rbc_spec.specs.Line.{is_home, Line, section}
use Rattle.rbc_spec.specs.Links.{announced, answered_ask, expect, is_train, lendable, received, right_asked}
use Rattle.rbc_spec.specs.Links.{right_given, right_refused, right_returned, route_asked, route_returned, route_told}
use Rattle.rbc_spec.specs.Links.{route_withdrawn, take_mission, taking_over, yielded}
use Rattle.rbc_spec.specs.Maps.{put}
use Rattle.rbc_spec.specs.Outcome.{Early, Next, NoLink, Old, Taken as LinkAnswer}
use Rattle.rbc_spec.specs.Place.{Place}
use Rattle.rbc_spec.specs.Rules.{begin, drop_wait, reject}
use Rattle.rbc_spec.specs.SectionRuns.{all_of, is_empty, next_after, no_run, part_before, part_from, SectionRun, within}
use Rattle.rbc_spec.specs.Step.{taken_by}

module _ (d : ℕ) (line : Line) (c t : ℕ) where
  where_few : (b : Bool) (x : Reply) (k : Centre) → Few d line c t x → Few d line c t (if b then x else rest k)
  where_few b x k sends = few_if d line c t b x (rest k) sends
      (quiet d line c t (rest k) refl (omega arith) (omega arith))

  -- ## Rights

  asked_right : (e : ℕ) (k : Centre) → Few d line c t (right_asked line c e t k)
  asked_right e k = where_few _ _ k (few_if d line c t (k.has_right t) _ _
      (few d line c t 0 8 1 0 0 _ (omega arith) (omega arith) (omega arith) (omega arith)
      (sends_then 0 d 0 0 8 0 1 0 0 0 0 (become (λ j. record j { has_right = put j.has_right t false }))
      (send e (GiveRight t)) k (omega arith) (omega arith)
      (sends_none 0 d 0 0 _ refl refl refl)
      (sends_one 0 d line c t 0 8 e (GiveRight t) _ (omega arith) (omega arith) tt)))
      (few d line c t 0 8 1 0 0 _ (omega arith) (omega arith) (omega arith) (omega arith)
      (sends_one 0 d line c t 0 8 e (RefuseRight t) k (omega arith) (omega arith) tt)))

  given_right : (k : Centre) → Few d line c t (right_given line c t k)
  unfolding ◌>>◌
  given_right k = where_few _ _ k (few_if d line c t _ _ _ (begins (k.wait t))
      (few d line c t 4 5 1 0 0 _ (omega arith) (omega arith) (omega arith) (omega arith)
      (right_sends 0 d line c t (answered_ask t k).state)))
    where
      begins : (o : Option Place)
          → Few d line c t
          (option_map_or (λ place. (become (λ k. record k { wait = put k.wait t None }) >> begin line t place)
          (answered_ask t k).state) o (rest (answered_ask t k).state))
      begins (Some place) = quiet d line c t _ refl (omega arith) (omega arith)
      begins None = quiet d line c t _ refl (omega arith) (omega arith)

  refused_right : (k : Centre) → HoldsFew line k → Few d line c t (right_refused line c t k)
  unfolding ◌>>◌
  refused_right k h = where_few _ _ k (where_few _ _ (answered_ask t k).state
      (few d line c t 0 0 0 1 64 _ (omega arith) (omega arith) (omega arith) (omega arith)
      (sends_then 0 d 0 0 0 0 0 0 1 64 0 (drop_wait line c t) (reject t) (answered_ask t k).state
      (omega arith) (omega arith)
      (drop_few d line c t (answered_ask t k).state
      (record { missions = h.missions; pools = h.pools; waits = h.waits }))
      (sends_quiet 0 d 0 0 0 1 0 _ refl (omega arith) (omega arith)))))

  returned_right : (k : Centre) → Few d line c t (right_returned line c t k)
  returned_right k =
      where_few _ _ k (few d line c t 4 5 1 0 0 _ (omega arith) (omega arith) (omega arith) (omega arith)
      (right_sends 0 d line c t k))

  -- ## Route Related Information

  lent_few : (e first most : ℕ) (k : Centre) → Few d line c t (route_asked line c e t first most k)
  lent_few e first most k =
      where_few _ _ k (few d line c t 0 8 1 0 0 _ (omega arith) (omega arith) (omega arith) (omega arith)
      (sends_then 0 d 0 0 8 0 1 0 0 0 0 (booked is_open (Out t) (lendable line c k first most))
      (send e (RouteInfo t (lendable line c k first most))) k (omega arith) (omega arith)
      (sends_none 0 d 0 0 _ refl refl refl) (sends_one 0 d line c t 0 8 e (RouteInfo t (lendable line c k first most)) _
      (omega arith) (omega arith) tt)))

  told_few : (e : ℕ) (r : SectionRun) (k : Centre) → Few d line c t (route_told line c e t r k)
  unfolding ◌>>◌
  told_few e r k = where_few _ _ k (few_if d line c t _ _ _
      (quiet d line c t (change_mission t (λ m. record m { pool = r })
      (become (λ j. record j { route_ask = put j.route_ask t None }) k).state) refl (omega arith)
      (omega arith)) (goes (is_empty r)))
    where
      goes : (b : Bool)
          → Few d line c t ((if b then rest else send e (RouteReturn t r))
          (become (λ k. record k { route_ask = put k.route_ask t None }) k).state)
      goes true = quiet d line c t _ refl (omega arith) (omega arith)
      goes false = few d line c t 0 2 1 0 0 _ (omega arith) (omega arith) (omega arith) (omega arith)
          (sends_one 0 d line c t 0 2 e (RouteReturn t r) _ (omega arith) (side_below (nat_lt (next_after r) 0))
          (λ none. absurd (omega (arith, none))))

  withdrawn_few : (s : ℕ) (k : Centre) → Few d line c t (route_withdrawn line c t s k)
  withdrawn_few s k = by_mission (k.mission t)
    where
      by_pool : (b : Bool) (m : Mission)
          → Few d line c t
          ((if b then (returned line c t m.place.track (part_from s m.pool)
          >> change_mission t (λ n. record n { pool = part_before s n.pool })) else propose_if_so line t s) k)
      by_pool true m = few d line c t 0 2 1 0 0 _ (omega arith) (omega arith) (omega arith) (omega arith)
          (sends_then 0 d 0 2 2 1 0 0 0 0 0 (returned line c t m.place.track (part_from s m.pool))
          (change_mission t (λ n. record n { pool = part_before s n.pool })) k (omega arith) (omega arith)
          (home_any 0 d line c t m.place.track (part_from s m.pool) k) (sends_none 0 d 2 2 _ refl refl refl))
      by_pool false m = few d line c t 0 0 0 1 0 _ (omega arith) (omega arith) (omega arith) (omega arith)
          (propose_sends 0 d line c t 0 0 s k)

      by_mission : (o : Option Mission)
          → Few d line c t
          (option_map_or
          (λ m. (if within m.pool s then (returned line c t m.place.track (part_from s m.pool)
          >> change_mission t (λ n. record n { pool = part_before s n.pool })) else
          propose_if_so line t s) k) o (rest k))
      by_mission (Some m) = by_pool (within m.pool s) m
      by_mission None = quiet d line c t _ refl (omega arith) (omega arith)

  come_home_few : (e : ℕ) (r : SectionRun) (k : Centre) → r.count ≤ 64 → Few d line c t (route_returned line c t r k)
  come_home_few e r k size = few d line c t 0 0 0 1 (r.count + 0) _ (omega arith) (omega arith)
      (omega arith) (omega (arith, size))
      (sends_then 0 d 0 0 0 0 0 0 1 r.count 0 (freed line c (is_out_for t) r)
      (where_so (λ j. not (uses_some line c j t)
      && ((is_none (j.mission t) && is_none (j.wait t)) && not (is_expected line j t))) (end_order line c t)) k
      (omega arith) (omega arith)
      (freed_sends 0 d line c t 0 0 (is_out_for t) r k)
      (where_sends d line c t 0 0 0 1 0 _ _ (freed line c (is_out_for t) r k).state
      (end_order_sends 0 d line c t 0 0 (freed line c (is_out_for t) r k).state)))

  -- ## Handover

  over_few : (e number : ℕ) (k : Centre) → Few d line c t (taking_over line c e number t k)
  over_few e number k = few d line c t 0 3 2 1 0 _ (omega arith) (omega arith) (omega arith) (omega arith)
      (over_sends 0 d line c t 0 1 e number k (omega arith) (λ m is. home_any 0 d line c t m.place.track m.pool k))

  -- the acts before the request to shorten of a mission that is taken over
  abbrev takes : ℕ → ℕ → Mission → Act
  takes e heard m = booked (is_out_for t) (Taken t) m.hand >> set_mission t (Some m)
      >> (become (λ k. record k { heard = put k.heard t (Some (option_map_or (max heard) (k.heard t) heard)) })
      >> expect e t None)

  abbrev wished_of : Mission → Centre → Option ℕ
  wished_of m j = find (λ s. is_home line c s && j.wish s) (range_with_len m.hand.first m.hand.count)

  takes_sends : (e heard : ℕ) (m : Mission) (k : Centre) → Sends 0 d 0 0 0 0 0 (takes e heard m k)
  unfolding ◌>>◌
  takes_sends e heard m k = sends_none 0 d 0 0 (takes e heard m k) refl refl refl

  take_few : (e heard : ℕ) (m : Mission) (k : Centre) → Few d line c t (take_mission line c e t heard m k)
  take_few e heard m k = few d line c t 0 0 0 1 0 _ (omega arith) (omega arith) (omega arith) (omega arith)
      (sends_then 0 d 0 0 0 0 0 0 1 0 0 (takes e heard m) (with_some (wished_of m) (propose_if_so line t)) k
      (omega arith) (omega arith) (takes_sends e heard m k)
      (some_sends d line c t 0 0 0 1 0 (wished_of m (takes e heard m k).state)
      (λ s. propose_if_so line t s (takes e heard m k).state) (takes e heard m k).state
      (λ s. propose_sends 0 d line c t 0 0 s (takes e heard m k).state)))

-- ## Every frame

module _ (d : ℕ) (line : Line) (c : ℕ) where
  of_train_few : (t : ℕ) (b : Bool) (act : Act) (k : Centre) → Few d line c t (act k)
      → Few d line c t ((if b then act else rest) k)
  of_train_few t true act k sends = sends
  of_train_few t false act k sends = quiet d line c t (rest k) refl (omega arith) (omega arith)

  received_few : (e : ℕ) (body : Body) (k : Centre) → HoldsFew line k → BringsFew body
      → Few d line c (train_of body) (received line c e body k)
  received_few e (AskRight t) k h few = of_train_few t (is_train line t) _ k (asked_right d line c t e k)
  received_few e (GiveRight t) k h few = of_train_few t (is_train line t) _ k (given_right d line c t k)
  received_few e (RefuseRight t) k h few = of_train_few t (is_train line t) _ k (refused_right d line c t k h)
  received_few e (ReturnRight t) k h few = of_train_few t (is_train line t) _ k (returned_right d line c t k)
  received_few e (RouteAsk t first most) k h few =
      of_train_few t (is_train line t) _ k (lent_few d line c t e first most k)
  received_few e (RouteInfo t r) k h few = of_train_few t (is_train line t) _ k (told_few d line c t e r k)
  received_few e (RouteWithdraw t s) k h few =
      of_train_few t (is_train line t) _ k (of_train_few t (is_some (section line s)) (route_withdrawn line c t s) k
      (withdrawn_few d line c t s k))
  received_few e (RouteReturn t r) k h few =
      of_train_few t (is_train line t) _ k
      (of_train_few t (all_of (λ s. is_some (section line s)) r) (route_returned line c t r) k
      (come_home_few d line c t e r k few))
  received_few e (Announce number t track) k h few =
      of_train_few t (is_train line t) _ k (of_train_few t (nat_lt track (length line.tracks)) (announced e number t) k
      (where_few d line c t _ _ k
      (quiet d line c t (expect e t (Some (record { number = number; is_taking = false })) k) refl
      (omega arith) (omega arith))))
  received_few e (Cancel number t) k h few =
      of_train_few t (is_train line t) _ k
      (where_few d line c t _ _ k (quiet d line c t (expect e t None k) refl (omega arith) (omega arith)))
  received_few e (TakingOver number t) k h few = of_train_few t (is_train line t) _ k (over_few d line c t e number k)
  received_few e (Yield number t heard has_data is_ended place hand) k h few =
      of_train_few t (is_train line t) _ k (by_place (carried_place place))
    where
      by_place : (o : Option Place)
          → Few d line c t (option_map_or (yielded line c e number t hand heard has_data is_ended) o rest k)
      by_place (Some at) = where_few d line c t _ _ k
          (take_few d line c t e heard
          (record {
            place = at;
            hand = hand;
            pool = no_run;
            has_data = has_data;
            is_ended = is_ended;
            proposal = None;
            handing = None;
          }) k)
      by_place None = quiet d line c t (rest k) refl (omega arith) (omega arith)

  -- ## Every event

  -- the limits of a step's frames, messages and replies, in plain numbers
  pub record IsFew (r : Reply) : Type 0 where
    pub order : GoInOrder (r.frames d)
    pub frames : length (r.frames d) ≤ 3
    pub sayings : length r.sayings ≤ 2
    pub words : length r.words ≤ 64

  pub plain : (t : ℕ) (r : Reply) → Few d line c t r → IsFew r
  plain t r h =
      record {
        order = h.sends.order;
        frames = h.sends.few_frames;
        sayings = h.sends.few_sayings;
        words = h.sends.few_words;
      }

  pub taken_few : (e : ℕ) (f : Frame) (answer : LinkAnswer) (k : Centre) → HoldsFew line k → BringsFew f.body
      → IsFew (taken_by line c e f answer k)
  unfolding ◌>>◌
  taken_few e f Next k h few =
      let next = received_few e f.body (record k { taken = put k.taken e f.number })
      (record { missions = h.missions; pools = h.pools; waits = h.waits }) few in
      plain (train_of f.body) (received line c e f.body (record k { taken = put k.taken e f.number })) next
  taken_few e f Old k h few = plain 0 (rest k) (quiet d line c 0 (rest k) refl (omega arith) (omega arith))
  taken_few e f Early k h few = plain 0 (rest k) (quiet d line c 0 (rest k) refl (omega arith) (omega arith))
  taken_few e f NoLink k h few = plain 0 (rest k) (quiet d line c 0 (rest k) refl (omega arith) (omega arith))

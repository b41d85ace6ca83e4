-- No step leaves a section of the next centre in a hand without an announcement.
use Rattle.std.proofs.Common.{◌&&◌, ◌≡◌, Bool, false, if◌then◌else◌, is_none, is_some, length, nat_lt, None, not, Ok}
use Rattle.std.proofs.Common.{Option, refl, Some, true, ℕ}
use Rattle.std.specs.Option.{option_map_or}
use Rattle.law_invariants.specs.Flow.Counts.{wait_has}
use Rattle.law_invariants.specs.Flow.Sound.{IsCentreSound, IsHandAt}
use Rattle.law_invariants.specs.Handover.Worlds.{IsWorldSound}
use Rattle.law_refinement.proofs.BorderFrames.{given_good, take_good, told_keeps}
use Rattle.law_refinement.proofs.Bordering.{both, branch, changes, chosen, Good, good_from, good_to, Keeps, of_some}
use Rattle.law_refinement.proofs.Bordering.{when}
use Rattle.law_refinement.proofs.BorderMessages.{close_session_keeps, drop_keeps, end_good, end_keeps, granted_good}
use Rattle.law_refinement.proofs.BorderMessages.{over_keeps, propose_keeps, report_good, request_good, return_keeps}
use Rattle.law_refinement.proofs.BorderMessages.{start_good}
use Rattle.law_refinement.specs.Announced.{HasAnnounced, IsAnnounced}
use Rattle.rbc_spec.proofs.Lists.{put_holds}
use Rattle.rbc_spec.proofs.Worlds.{of_event}
use Rattle.rbc_spec.specs.Acts.{◌>>◌, Act, become, booked, change_mission, end_order, hear, propose_if_so, rest}
use Rattle.rbc_spec.specs.Acts.{return_right, returned, send}
use Rattle.rbc_spec.specs.Centre.{beginning, Centre, Entry, Handing, is_expected, is_open, is_registrar_of, is_unused}
use Rattle.rbc_spec.specs.Centre.{Mission, Open, Out, Shut, Taken, uses_some}
use Rattle.rbc_spec.specs.Frame.{Announce, AskRight, Body, Cancel, carried_place, Frame, GiveRight, RefuseRight}
use Rattle.rbc_spec.specs.Frame.{ReturnRight, RouteAsk, RouteInfo, RouteReturn, RouteWithdraw, TakingOver, Yield}
use Rattle.rbc_spec.specs.Line.{is_centre, is_home, IsLine, Line, next_centre, section}
use Rattle.rbc_spec.specs.Links.{announced, cancelled, expect, is_train, is_under, lendable, may_take, of_train}
use Rattle.rbc_spec.specs.Links.{received, right_asked, right_given, right_refused, right_returned, route_asked}
use Rattle.rbc_spec.specs.Links.{route_returned, route_told, route_withdrawn, take_mission, taking_over, yielded}
use Rattle.rbc_spec.specs.Maps.{put}
use Rattle.rbc_spec.specs.Message.{EndOfMission, InitiationOfSession, Report, Request, SessionEstablished}
use Rattle.rbc_spec.specs.Message.{ShorteningGranted, ShorteningRejected, StartOfMission, TerminationOfSession}
use Rattle.rbc_spec.specs.Message.{TrainBody, TrainData, TrainMessage}
use Rattle.rbc_spec.specs.Outcome as outcome
use Rattle.rbc_spec.specs.Outcome.{Asked, Done, Early, Next, NoLink, NotHome, Old, Reason}
use Rattle.rbc_spec.specs.Place.{Place}
use Rattle.rbc_spec.specs.Rules.{answered, drop_wait, reject, tell}
use Rattle.rbc_spec.specs.SectionRuns.{all_of, no_run, part_before, part_from, SectionRun, within}
use Rattle.rbc_spec.specs.Step as step
use Rattle.rbc_spec.specs.Step.{effect, hear_and_answer, link_answer, make, set, taken, taken_by, Train, unset, wished}
use Rattle.rbc_spec.specs.World.{Answer, Event, new_world, World, world_step}

module _ (line : Line) (ok : IsLine line) (c : ℕ) where
  yield_good : (k : Centre) (a number t heard : ℕ) (has_data is_ended : Bool) (hand : SectionRun)
      → Good line c k → (o : Option Place)
      → Good line c (option_map_or (yielded line c a number t hand heard has_data is_ended) o rest k).state
  yield_good k a number t heard has_data is_ended hand good None = good
  yield_good k a number t heard has_data is_ended hand good (Some place) =
      by_test (may_take line c k a number t place hand) refl
    where
      by_test : (b : Bool) → may_take line c k a number t place hand ≡ b
          → Good line c (if b then take_mission line c a t heard
          (record {
            place = place;
            hand = hand;
            pool = no_run;
            has_data = has_data;
            is_ended = is_ended;
            proposal = None;
            handing = None;
          }) k else rest k).state
      by_test true may = take_good line ok c t k a number heard has_data is_ended place hand may good
      by_test false not_so = good

  trains : (t : ℕ) (act : Act) → Keeps line c act → Keeps line c (of_train line t act)
  trains t act keeps = branch line c (is_train line t) act rest keeps (record { each = λ k good. good })

  train_good : (t : ℕ) (act : Act) (k : Centre) → Good line c k → Good line c (act k).state → (b : Bool)
      → Good line c ((if b then act else rest) k).state
  train_good t act k good so true = so
  train_good t act k good so false = good

  received_good : (d : ℕ) (body : Body) (k : Centre)
      → ((t s : ℕ) → wait_has line (k.wait t) s ≡ true → is_home line c s ≡ true) → Good line c k
      → Good line c (received line c d body k).state
  received_good d (AskRight t) k own good =
      (trains t (right_asked line c d t)
      (when line c (λ j. is_registrar_of line c t) _
      (chosen line c (λ j. j.has_right t) (become (λ j. record j { has_right = put j.has_right t false })
      >> send d (GiveRight t)) (send d (RefuseRight t))
      (both line c _ _ (record { each = λ j g. g }) (record { each = λ j g. g }))
      (record { each = λ j g. g })))).each k good
  received_good d (GiveRight t) k own good =
      train_good t (right_given line c t) k good (given_good line ok c t k (own t) good) (is_train line t)
  received_good d (RefuseRight t) k own good =
      (trains t (right_refused line c t)
      (when line c (λ j. j.has_asked t) _ (both line c _ _ (record { each = λ j g. g })
      (when line c (λ j. is_some (j.wait t)) (drop_wait line c t >> reject t)
      (both line c _ _ (drop_keeps line ok c t) (record { each = λ j g. g })))))).each k good
  received_good d (ReturnRight t) k own good =
      (trains t (right_returned line c t)
      (when line c (λ j. is_registrar_of line c t && (not (j.has_right t) && is_none (j.mission t)))
      (return_right line c t) (return_keeps line ok c t))).each k good
  received_good d (RouteAsk t first most) k own good = (trains t (route_asked line c d t first most) (record {
    each = λ j g. (when line c (λ i. is_some (section line first))
        (booked is_open (Out t) (lendable line c j first most) >> send d (RouteInfo t (lendable line c j first most)))
        (both line c _ _ (record { each = λ i h. h }) (record { each = λ i h. h }))).each j g;
  })).each k good
  received_good d (RouteInfo t r) k own good =
      (trains t (route_told line c d t r) (told_keeps line ok c t d r)).each k good
  received_good d (RouteWithdraw t s) k own good =
      (trains t (if is_some (section line s) then route_withdrawn line c t s else rest)
      (branch line c (is_some (section line s)) (route_withdrawn line c t s) rest
      (of_some line c (λ j. j.mission t)
      (λ m. if within m.pool s then (returned line c t m.place.track (part_from s m.pool)
      >> change_mission t (λ n. record n { pool = part_before s n.pool })) else propose_if_so line t s)
      (λ m. branch line c (within m.pool s) (returned line c t m.place.track (part_from s m.pool)
      >> change_mission t (λ n. record n { pool = part_before s n.pool })) (propose_if_so line t s)
      (both line c _ _ (record { each = λ j g. g })
      (changes line c t (λ n. record n { pool = part_before s n.pool }) (λ n so. so)))
      (propose_keeps line ok c t s))) (record { each = λ j g. g }))).each k good
  received_good d (RouteReturn t r) k own good =
      (trains t (if all_of (λ s. is_some (section line s)) r then route_returned line c t r else rest)
      (branch line c (all_of (λ s. is_some (section line s)) r) (route_returned line c t r) rest
      (both line c _ _ (record { each = λ j g. g })
      (when line c (λ j. not (uses_some line c j t)
      && ((is_none (j.mission t) && is_none (j.wait t)) && not (is_expected line j t))) (end_order line c t)
      (end_keeps line ok c t)))
      (record { each = λ j g. g }))).each k good
  received_good d (Announce number t track) k own good =
      (trains t (if nat_lt track (length line.tracks) then announced d number t else rest)
      (branch line c (nat_lt track (length line.tracks)) (announced d number t) rest
      (when line c (λ j. is_none (j.expects d t)) (expect d t (Some (record { number = number; is_taking = false })))
      (record { each = λ j g. g })) (record { each = λ j g. g }))).each k good
  received_good d (Cancel number t) k own good =
      (trains t (cancelled d number t) (when line c (λ j. is_under number (j.expects d t)) (expect d t None)
      (record { each = λ j g. g }))).each k good
  received_good d (TakingOver number t) k own good =
      (trains t (taking_over line c d number t) (over_keeps line ok c t d number)).each k good
  received_good d (Yield number t heard has_data is_ended place hand) k own good =
      train_good t (option_map_or (yielded line c d number t hand heard has_data is_ended) (carried_place place) rest) k
      good (yield_good k d number t heard has_data is_ended hand good (carried_place place)) (is_train line t)

  -- ## A step

  -- the facts that are known of a mission at a sound centre
  abbrev Known : Mission → Type 0
  Known n = IsHandAt line n.place n.hand
      × ((h : Handing) → n.handing ≡ Some h → next_centre line c n.place.track ≡ Some h.to)

  answered_good : (m : TrainMessage) (body : TrainBody) (j : Centre)
      → ((t : ℕ) (n : Mission) → j.mission t ≡ Some n → Known n) → Good line c j
      → Good line c (answered line c m body j).state
  answered_good m (TrainData position) j known good =
      (both line c _ _ (changes line c m.nid_engine (λ n. record n { has_data = true }) (λ n so. so))
      (record { each = λ i g. g })).each j good
  answered_good m (Request position) j known good = request_good line ok c m.nid_engine position j good
  answered_good m (Report position) j known good = report_good line ok c m.nid_engine position j good
  answered_good m (ShorteningGranted stamp position) j known good =
      granted_good line ok c m.nid_engine position j (λ n at. (known m.nid_engine n at).1) good
  answered_good m (ShorteningRejected stamp position) j known good =
      (changes line c m.nid_engine (λ n. record n { proposal = None }) (λ n so. so)).each j good
  answered_good m (EndOfMission position) j known good =
      end_good line ok c m.nid_engine position j (λ n at. (known m.nid_engine n at).1) good
  answered_good m InitiationOfSession j known good =
      (both line c _ _ (both line c _ _ (close_session_keeps line ok c m.nid_engine) (record { each = λ i g. g }))
      (record { each = λ i g. g })).each j good
  answered_good m TerminationOfSession j known good =
      (both line c _ _ (close_session_keeps line ok c m.nid_engine) (record { each = λ i g. g })).each j good
  answered_good m (StartOfMission is_valid position) j known good =
      start_good line ok c m.nid_engine is_valid position j (λ n at. (known m.nid_engine n at).0) good
  answered_good m SessionEstablished j known good = good

  message_good : (m : TrainMessage) (k : Centre) → ((t : ℕ) (n : Mission) → k.mission t ≡ Some n → Known n)
      → Good line c k → (o : Option Reason)
      → Good line c (option_map_or {U = step.Effect} (λ why. record { reply = rest k; link = None; silence = Some why })
      o (record { reply = hear_and_answer line c m k; link = None; silence = None })).reply.state
  unfolding ◌>>◌
  message_good m k known good (Some why) = good
  message_good m k known good None = answered_good m m.body (hear m k).state known good

  wished_keeps : (s : ℕ) (e : Entry) → Keeps line c (wished line c s e)
  wished_keeps s Shut = record { each = λ k good. good }
  wished_keeps s Open = record { each = λ k good. good }
  wished_keeps s (Taken t) = propose_keeps line ok c t s
  wished_keeps s (Out t) = record { each = λ k good. good }

  set_good : (s : ℕ) (k : Centre) → Good line c k → Good line c (set line c s k).state
  set_good s k good = by_home (not (is_home line c s))
    where
      by_home : (z : Bool) → Good line c (if z then tell (NotHome s) k
          else (become (λ j. record j { wish = put j.wish s false })
          >> ((if is_unused (k.book s) then make s Open false else rest) >> tell (Done s))) k).state
      by_home true = good
      by_home false =
          (both line c _ _ (record { each = λ j g. g })
          (both line c _ _ (branch line c (is_unused (k.book s)) (make s Open false) rest (record { each = λ j g. g })
          (record { each = λ j g. g })) (record { each = λ j g. g }))).each k good

  unset_good : (s : ℕ) (k : Centre) → Good line c k → Good line c (unset line c s k).state
  unset_good s k good = by_home (not (is_home line c s))
    where
      by_home : (z : Bool) → Good line c (if z then tell (NotHome s) k
          else (if is_unused (k.book s) then (make s Shut false >> tell (Done s)) else
          ((become (λ j. record j { wish = put j.wish s true }) >> tell (Asked s))
          >> wished line c s (k.book s))) k).state
      by_home true = good
      by_home false =
          (branch line c _ _ _ (both line c _ _ (record { each = λ j g. g }) (record { each = λ j g. g }))
          (both line c _ _ (both line c _ _ (record { each = λ j g. g }) (record { each = λ j g. g }))
          (wished_keeps s (k.book s)))).each k good

  frame_good : (d : ℕ) (f : Frame) (answer : outcome.Taken) (k : Centre)
      → ((t s : ℕ) → wait_has line (k.wait t) s ≡ true → is_home line c s ≡ true) → Good line c k
      → Good line c (taken_by line c d f answer k).state
  unfolding ◌>>◌
  frame_good d f Next k own good = received_good d f.body (record k { taken = put k.taken d f.number }) own good
  frame_good d f Old k own good = good
  frame_good d f Early k own good = good
  frame_good d f NoLink k own good = good

  effect_good : (k : Centre) (event : step.Event) → ((t : ℕ) (n : Mission) → k.mission t ≡ Some n → Known n)
      → ((t s : ℕ) → wait_has line (k.wait t) s ≡ true → is_home line c s ≡ true) → Good line c k
      → Good line c (effect line c k event).reply.state
  effect_good k (Train m) known own good = message_good m k known good (step.silence line c k m)
  effect_good k (step.Set s) known own good = set_good s k good
  effect_good k (step.Unset s) known own good = unset_good s k good
  effect_good k (step.Deliver d f) known own good = frame_good d f (link_answer line c k d f) k own good

  pub step_announces : (k : Centre) (event : step.Event) → IsCentreSound line c k → HasAnnounced line c k
      → HasAnnounced line c (taken line c event k).1
  step_announces k event sound old = good_to line c (taken line c event k).1
      (effect_good (step.ticked (step.stamp_of k event) k) event
      (λ t n at. let is = sound.mission t n at in (is.hand, is.handing_to)) sound.wait_home (good_from line c k old))

-- # After each event, each handover is announced as soon as the hand has a section of the next centre.

pub announced_begins : (line : Line) → IsAnnounced line (new_world line)
unfolding new_world beginning
announced_begins line c to t d m at next none = cc

module _ (line : Line) (ok : IsLine line) (w : World) (sound : IsWorldSound line w) (old : IsAnnounced line w) where
  -- each handover is announced as soon as it is due, at centre d of the line
  abbrev Announced : ℕ → Centre → Type 0
  Announced d k = is_centre line d ≡ true → HasAnnounced line d k

  pub announced_stays : (event : Event) (answer : Answer) (new : World) → world_step line w event ≡ Ok (answer, new)
      → IsAnnounced line new
  announced_stays = of_event line w (λ e a x. IsAnnounced line x) (λ e a idle. old)
      (λ e c own trains brings none. put_holds Announced w.at c (taken line c own (w.at c)).1 old
      (λ to. step_announces line ok c (w.at c) own (sound.flow.centres c to) (old c to)))

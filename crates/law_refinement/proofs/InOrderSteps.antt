-- The words of a step are in the order of sections, and requests to shorten.
use Rattle.std.proofs.Common.{◌&&◌, ◌∙◌, ◌≡◌, ap, Bool, false, if◌then◌else◌, is_none, is_some, None, not, Option, refl}
use Rattle.std.proofs.Common.{Some, subst, sym, true, ℕ}
use Rattle.std.proofs.lemmas.Option.{same_Some}
use Rattle.std.specs.Option.{option_map_or}
use Rattle.law_base.proofs.CountingLemmas.Sums.{put_same}
use Rattle.law_base.proofs.PiecesLemmas.GivenSections.{none_in_order, one_in_order}
use Rattle.law_base.proofs.RulesLemmas.Places.{placed_on}
use Rattle.law_base.proofs.WalkLemmas.Steps.{answered_walks, may_do}
use Rattle.law_base.specs.Rules.Distances.{extended, IsRequestHeard}
use Rattle.law_invariants.proofs.FlowLemmas.Shown.{heard_then}
use Rattle.law_invariants.specs.Flow.Flow.{Flow}
use Rattle.law_invariants.specs.Flow.Leads.{Leads, LeadsHeard, LeadsOwn, replied}
use Rattle.law_invariants.specs.Flow.Shows.{Shows}
use Rattle.law_invariants.specs.Flow.Sound.{IsFlowSound}
use Rattle.law_refinement.proofs.FollowupsLemmas.Borders.{grants_so}
use Rattle.law_refinement.proofs.FollowupsLemmas.Proposals.{request_may_announce}
use Rattle.law_refinement.proofs.InOrder.{close_session_in_order, drop_in_order, end_in_order, freed_in_order}
use Rattle.law_refinement.proofs.InOrder.{granted_in_order, IsOrdered, none_then, quiet, report_in_order, then_none}
use Rattle.law_refinement.proofs.MissionsLemmas.Asked.{has_place_for, Placed, request_in_parts, request_is_own}
use Rattle.law_refinement.proofs.Words.{branch, end_silent, IsNone, message, of_some, silent, silent_frame, when}
use Rattle.law_refinement.proofs.Words.{wished_silent}
use Rattle.law_refinement.specs.Announced.{HasAnnounced}
use Rattle.law_refinement.specs.Followups.Borders.{MayAnnounce}
use Rattle.law_refinement.specs.Missions.Parts.{at_border_then, border_of, extend, own_request}
use Rattle.rbc_spec.proofs.Lists.{put_there}
use Rattle.rbc_spec.specs.Acts.{◌>>◌, Act, become, end_order, hear, part_at, Reply, rest}
use Rattle.rbc_spec.specs.Centre.{Centre, is_expected, is_out_for, is_unused, Mission, Open, Shut, uses_some}
use Rattle.rbc_spec.specs.Frame.{Body, Frame, RefuseRight, RouteReturn}
use Rattle.rbc_spec.specs.Line.{is_centre, is_home, IsLine, Line, next_centre, section}
use Rattle.rbc_spec.specs.LineCentre.{LineState}
use Rattle.rbc_spec.specs.Links.{is_train, of_train, received, right_refused, route_returned}
use Rattle.rbc_spec.specs.Maps.{put}
use Rattle.rbc_spec.specs.Message.{EndOfMission, InitiationOfSession, Report, Request, ShorteningGranted}
use Rattle.rbc_spec.specs.Message.{TerminationOfSession, TrainBody, TrainMessage}
use Rattle.rbc_spec.specs.Outcome as outcome
use Rattle.rbc_spec.specs.Outcome.{Asked, Done, Early, Next, NoLink, NotHome, Old, Reason}
use Rattle.rbc_spec.specs.Place.{Place, place_on, Position}
use Rattle.rbc_spec.specs.Rules.{answered, drop_wait, reject, tell}
use Rattle.rbc_spec.specs.Run.{TellsInOrder}
use Rattle.rbc_spec.specs.SectionRuns.{all_of, is_empty, SectionRun}
use Rattle.rbc_spec.specs.Step as step
use Rattle.rbc_spec.specs.Step.{effect, hear_and_answer, link_answer, make, set, taken, taken_by, Train, unset, wished}

module _ (line : Line) (c : ℕ) where
  answered_in_order : (m : TrainMessage) (body : TrainBody) → IsOrdered (answered line c m body)
  answered_in_order m (Report position) = report_in_order line c m.nid_engine position
  answered_in_order m (ShorteningGranted stamp position) = of_some TellsInOrder none_in_order _ _
      (λ n. of_some TellsInOrder none_in_order (λ k. n.proposal) _
      (λ p. granted_in_order line c m.nid_engine position n p))
  answered_in_order m (EndOfMission position) = end_in_order line c m.nid_engine position
  answered_in_order m InitiationOfSession =
      then_none _ _ (then_none _ _ (close_session_in_order line c m.nid_engine) (record { each = λ k. refl }))
      (record { each = λ k. refl })
  answered_in_order m TerminationOfSession =
      then_none _ _ (close_session_in_order line c m.nid_engine) (record { each = λ k. refl })
  answered_in_order m body =
      quiet (answered line c m body)
      (record {
        each = λ k. silent line c (may_do m body) refl k k (answered line c m body k)
            (answered_walks line c k m body);
      })

  trains : (t : ℕ) (act : Act) → IsOrdered act → IsOrdered (of_train line t act)
  trains t act tells = branch TellsInOrder none_in_order (is_train line t) act rest tells
      (quiet rest (record { each = λ k. refl }))

  refused_in_order : (t : ℕ) → IsOrdered (right_refused line c t)
  refused_in_order t = when TellsInOrder none_in_order (λ k. k.has_asked t) _
      (none_then _ _ (record { each = λ k. refl })
      (when TellsInOrder none_in_order (λ k. is_some (k.wait t)) (drop_wait line c t >> reject t)
      (then_none _ _ (drop_in_order line c t) (record { each = λ k. refl }))))

  home_in_order : (d t : ℕ) (r : SectionRun) → IsOrdered (route_returned line c t r)
  home_in_order d t r = then_none _ _ (freed_in_order line c t (is_out_for t) r)
      (when IsNone refl (λ k. not (uses_some line c k t)
      && ((is_none (k.mission t) && is_none (k.wait t)) && not (is_expected line k t)))
      (end_order line c t) (end_silent line c t))

  received_in_order : (d : ℕ) (body : Body) → IsOrdered (received line c d body)
  received_in_order d (RefuseRight t) = trains t (right_refused line c t) (refused_in_order t)
  received_in_order d (RouteReturn t r) =
      trains t (if all_of (λ s. is_some (section line s)) r then route_returned line c t r else rest)
      (branch TellsInOrder none_in_order (all_of (λ s. is_some (section line s)) r) (route_returned line c t r) rest
      (home_in_order d t r) (quiet rest (record { each = λ k. refl })))
  received_in_order d body = quiet (received line c d body) (silent_frame line c d body refl)

  set_in_order : (s : ℕ) → IsOrdered (set line c s)
  set_in_order s = record { each = λ k. by_home k (not (is_home line c s)) }
    where
      done : (k : Centre) (z : Bool)
          → IsOrdered (become (λ j. record j { wish = put j.wish s false })
          >> ((if z then make s Open false else rest) >> tell (Done s)))
      done k true = none_then _ _ (record { each = λ j. refl })
          (none_then _ _ (record { each = λ j. refl }) (record { each = λ j. one_in_order (Done s) }))
      done k false = none_then _ _ (record { each = λ j. refl })
          (none_then _ _ (record { each = λ j. refl }) (record { each = λ j. one_in_order (Done s) }))

      by_home : (k : Centre) (z : Bool) → TellsInOrder (if z then tell (NotHome s) k
          else (become (λ j. record j { wish = put j.wish s false })
          >> ((if is_unused (k.book s) then make s Open false else rest) >> tell (Done s))) k).words
      by_home k true = one_in_order (NotHome s)
      by_home k false = (done k (is_unused (k.book s))).each k

  unset_in_order : (s : ℕ) → IsOrdered (unset line c s)
  unset_in_order s = record { each = λ k. by_home k (not (is_home line c s)) }
    where
      by_use : (k : Centre) (z : Bool)
          → TellsInOrder
          ((if z then (make s Shut false >> tell (Done s)) else
          ((become (λ j. record j { wish = put j.wish s true }) >> tell (Asked s))
          >> wished line c s (k.book s))) k).words
      by_use k true =
          (none_then _ _ (record { each = λ j. refl }) (record { each = λ j. one_in_order (Done s) })).each k
      by_use k false =
          (then_none _ _ (none_then _ _ (record { each = λ j. refl }) (record { each = λ j. one_in_order (Asked s) }))
          (wished_silent line c s (k.book s))).each k

      by_home : (k : Centre) (z : Bool) → TellsInOrder (if z then tell (NotHome s) k
          else (if is_unused (k.book s) then (make s Shut false >> tell (Done s)) else
          ((become (λ j. record j { wish = put j.wish s true }) >> tell (Asked s))
          >> wished line c s (k.book s))) k).words
      by_home k true = one_in_order (NotHome s)
      by_home k false = by_use k (is_unused (k.book s))

  -- ## A step

  message_in_order : (m : TrainMessage) (k : Centre) (o : Option Reason)
      → TellsInOrder
      (option_map_or {U = step.Effect} (λ why. record { reply = rest k; link = None; silence = Some why }) o
      (record { reply = hear_and_answer line c m k; link = None; silence = None })).reply.words
  message_in_order m k (Some why) = none_in_order
  message_in_order m k None = (none_then _ _ (record { each = λ j. refl }) (answered_in_order m m.body)).each k

  frame_in_order : (d : ℕ) (f : Frame) (answer : outcome.Taken) (k : Centre)
      → TellsInOrder (taken_by line c d f answer k).words
  unfolding ◌>>◌
  frame_in_order d f Next k = (received_in_order d f.body).each (record k { taken = put k.taken d f.number })
  frame_in_order d f Old k = none_in_order
  frame_in_order d f Early k = none_in_order
  frame_in_order d f NoLink k = none_in_order

  pub effect_in_order : (k : Centre) (event : step.Event) → TellsInOrder (effect line c k event).reply.words
  effect_in_order k (Train m) = message_in_order m k (step.silence line c k m)
  effect_in_order k (step.Set s) = (set_in_order s).each k
  effect_in_order k (step.Unset s) = (unset_in_order s).each k
  effect_in_order k (step.Deliver d f) = frame_in_order d f (link_answer line c k d f) k

  pub step_in_order : (event : step.Event) (k : Centre) → TellsInOrder (taken line c event k).0.words
  step_in_order event k = effect_in_order (step.ticked (step.stamp_of k event) k) event

-- # A request is met: the hand is extended, and then the centre does the due acts at the border.

module _ (line : Line) (ok : IsLine line) (w : Flow) (v : LineState) (sound : IsFlowSound line w)
    (sees : Shows line w v) (c t_train t : ℕ) (to : is_centre line c ≡ true)
    (position : Position) (announced : HasAnnounced line c (w.at c))
    (heard : step.silence line c (w.at c) (message t_train t (Request position)) ≡ None) where
  abbrev k : Centre
  k = w.at c

  abbrev m : TrainMessage
  m = message t_train t (Request position)

  here : Placed line c t_train t k position
  here = has_place_for line c t_train t k position heard

  abbrev placed : Mission
  placed = record (here.m) { place = here.place }

  abbrev hearing : Centre
  hearing = (hear m k).state

  -- the own part
  extends : own_request line c t position hearing ≡ extend line c t placed hearing
  extends =
      ap (λ (o : Option Mission). option_map_or
      (λ x. option_map_or (λ p. extend line c t (record x { place = p })) (place_on line x.place.track position) rest
      hearing) o (rest hearing)) here.at
      ∙ ap (λ (o : Option Place). option_map_or (λ p. extend line c t (record (here.m) { place = p })) o rest hearing)
      here.on

  abbrev left : Centre
  left = (extend line c t placed hearing).state

  at_left : left.mission t ≡ Some (extended line c k here.place here.m)
  unfolding ◌>>◌
  at_left = put_there hearing.mission t (Some (extended line c k here.place here.m))

  same_track : here.place.track ≡ (here.m).place.track
  same_track = (placed_on line (here.m).place.track position here.place here.on).track_is

  -- the acts after it
  at_border : at_border_then line c t position left ≡ border_of line c t here.place.track left
  at_border =
      ap (λ (o : Option Mission). option_map_or
      (λ x. option_map_or (λ p. border_of line c t p.track) (place_on line x.place.track position) rest left)
      o (rest left)) at_left
      ∙ ap (λ (o : Option Place). option_map_or (λ p. border_of line c t p.track) o rest left)
      (ap (λ track. place_on line track position) same_track ∙ here.on)

  is_request : IsRequestHeard line c k m here.m here.place
  is_request = record { position = position; asks = refl; heard = heard; mission = here.at; place_is = here.on }

  unannounced : (d : ℕ) → next_centre line c here.place.track ≡ Some d → (here.m).handing ≡ None
      → is_empty (part_at line d here.place.track (here.m).hand) ≡ true
  unannounced d next none = subst (λ track. is_empty (part_at line d track (here.m).hand) ≡ true) (sym same_track)
      (announced t d here.m here.at (subst (λ track. next_centre line c track ≡ Some d) same_track next) none)

  same_phase : left.phase t ≡ k.phase t
  unfolding ◌>>◌
  same_phase = refl

  may : (d : ℕ) → next_centre line c here.place.track ≡ Some d → MayAnnounce line c t d left
  may d next = request_may_announce line ok c d k m here.m here.place is_request
      ((sound.centres c to).mission t here.m here.at).hand left next (unannounced d next) at_left same_phase

  -- the track of the mission stays
  on : (x : Mission) → left.mission t ≡ Some x → x.place.track ≡ here.place.track
  on x at = ap (λ (y : Mission). y.place.track) (same_Some x (extended line c k here.place here.m) (sym at ∙ at_left))

  abbrev first : Act
  first = hear m >> own_request line c t position

  first_left : (first k).state ≡ left
  unfolding ◌>>◌
  first_left = ap (λ (r : Reply). r.state) extends

  pub request_heard : LeadsHeard line w c m (step.hear_and_answer line c m k) v
  request_heard = subst (λ (r : Reply). LeadsHeard line w c m r v)
      (sym (request_in_parts line c t_train t position k heard))
      (heard_then line w c m k v first (at_border_then line c t position) one
      (subst (λ (r : Reply). Leads line (replied w c (first k)) c r one.mid)
      (sym (ap (at_border_then line c t position) first_left ∙ at_border))
      (grants_so line (replied w c (first k)) c t here.place.track left one.mid ok one.sound one.shows to
      (put_same w.at c (first k).state ∙ first_left) on may)))
    where
      one : LeadsOwn line w c m (first k) v
      one = request_is_own line ok c t_train t position w v (w.at c).clock sound sees to heard

-- A centre's acts for a train's message are only of that train.
use Rattle.std.proofs.Common.{◌+◌, ◌-◌, Bool, false, if◌then◌else◌, None, not, Option, refl, Some, true, ℕ}
use Rattle.std.specs.Option.{option_map_or}
use Rattle.law_promises.proofs.ApartLemmas.Acts.{Its, its_become, its_booked, its_choose, its_if, its_option, its_rest}
use Rattle.law_promises.proofs.ApartLemmas.Acts.{its_returned, its_say, its_send, its_then, its_where, its_with}
use Rattle.law_promises.proofs.ApartLemmas.Acts.{of_option, same_has_asked, same_has_right, same_mission, same_phase}
use Rattle.law_promises.proofs.ApartLemmas.Acts.{same_route_ask, same_wait}
use Rattle.law_promises.specs.Apart.Apart.{IsSameOf}
use Rattle.rbc_spec.specs.Acts.{◌>>◌, announce, ask_route, become, begun, booked, cancel, change_mission, close}
use Rattle.rbc_spec.specs.Acts.{part_at, rest, return_pool, return_right, returned, say, send, set_mission, where_so}
use Rattle.rbc_spec.specs.Centre.{Centre, is_free, is_open, is_registrar_of, Mission, Phase, Taken}
use Rattle.rbc_spec.specs.Frame.{Announce, AskRight, Cancel, ReturnRight, RouteAsk}
use Rattle.rbc_spec.specs.Line.{Line, next_centre, registrar, start}
use Rattle.rbc_spec.specs.Maps.{put}
use Rattle.rbc_spec.specs.Message.{Authority, TrainAccepted, TrainRejected, Transition, unknown_group}
use Rattle.rbc_spec.specs.Place.{covered, fit_place, group_start, Place, place_on, Position}
use Rattle.rbc_spec.specs.Rules.{accept, announce_if_due, ask_route_if_due, at_border, authority, begin, extended_by}
use Rattle.rbc_spec.specs.Rules.{extension, grant, reject, request, restart, set_phase, start_here, start_mission}
use Rattle.rbc_spec.specs.Rules.{start_new, start_waiting}
use Rattle.rbc_spec.specs.SectionRuns.{all_of, next_after, no_run, within}
use Rattle.rbc_spec.specs.Sections.{nid_rbc}

module _ (takes : Bool) (line : Line) (c t : ℕ) where
  pub its_set : (mission : Option Mission) → Its takes t (set_mission t mission)
  its_set mission = its_become takes t (λ k. record k { mission = put k.mission t mission }) (λ k s. refl)
      (λ k u apart. same_mission takes t k mission u apart)

  pub its_change : (change : Mission → Mission) → Its takes t (change_mission t change)
  its_change change = its_become takes t _ (λ k s. refl) (λ k u apart. same_mission takes t k _ u apart)

  pub its_phase : (phase : Phase) → Its takes t (set_phase t phase)
  its_phase phase = its_become takes t (λ k. record k { phase = put k.phase t phase }) (λ k s. refl)
      (λ k u apart. same_phase takes t k phase u apart)

  pub its_wait : (wait : Option Place) → Its takes t (become (λ k. record k { wait = put k.wait t wait }))
  its_wait wait = its_become takes t (λ k. record k { wait = put k.wait t wait }) (λ k s. refl)
      (λ k u apart. same_wait takes t k wait u apart)

  its_right : (b : Bool) → Its takes t (become (λ k. record k { has_right = put k.has_right t b }))
  its_right b = its_become takes t (λ k. record k { has_right = put k.has_right t b }) (λ k s. refl)
      (λ k u apart. same_has_right takes t k b u apart)

  its_asks : (b : Bool) → Its takes t (become (λ k. record k { has_asked = put k.has_asked t b }))
  its_asks b = its_become takes t (λ k. record k { has_asked = put k.has_asked t b }) (λ k s. refl)
      (λ k u apart. same_has_asked takes t k b u apart)

  its_route : (o : Option ℕ) → Its takes t (become (λ k. record k { route_ask = put k.route_ask t o }))
  its_route o = its_become takes t (λ k. record k { route_ask = put k.route_ask t o }) (λ k s. refl)
      (λ k u apart. same_route_ask takes t k o u apart)

  its_announced : (n : ℕ) → Its takes t (become (λ k. record k { announced = n }))
  its_announced n = its_become takes t (λ k. record k { announced = n }) (λ k s. refl) (λ k u apart. same_of k n u)
    where
      same_of : (k : Centre) (n u : ℕ) → IsSameOf u k (record k { announced = n })
      same_of k n u =
          record {
            phase = refl;
            heard = refl;
            said = refl;
            mission = refl;
            wait = refl;
            has_asked = refl;
            has_right = refl;
            route_ask = refl;
            expects = λ d. refl;
            used = λ s. refl;
            entries = λ s is. refl;
          }

  pub its_pool : (m : Mission) → Its takes t (return_pool line c t m)
  its_pool m = its_then takes t (returned line c t m.place.track m.pool)
      (change_mission t (λ n. record n { pool = no_run })) (its_returned takes t line c m.place.track m.pool)
      (its_change (λ n. record n { pool = no_run }))

  pub its_cancel : (m : Mission) → Its takes t (cancel t m)
  its_cancel m = its_option takes t m.handing (λ h. send h.to (Cancel h.number t)
      >> change_mission t (λ n. record n { handing = None })) rest
      (λ h. its_then takes t (send h.to (Cancel h.number t)) (change_mission t (λ n. record n { handing = None }))
      (its_send takes t h.to (Cancel h.number t) refl) (its_change (λ n. record n { handing = None })))
      (its_rest takes t)

  its_return_right : Its takes t (return_right line c t)
  its_return_right = its_if takes t (is_registrar_of line c t)
      (become (λ k. record k { has_right = put k.has_right t true }))
      (option_map_or (λ r. send r (ReturnRight t)) (registrar line t) rest) (its_right true)
      (its_option takes t (registrar line t) (λ r. send r (ReturnRight t)) rest
      (λ r. its_send takes t r (ReturnRight t) refl) (its_rest takes t))

  pub its_close : (m : Mission) → Its takes t (close line c t m)
  its_close m = its_then takes t (set_mission t None >> cancel t m) (return_right line c t)
      (its_then takes t (set_mission t None) (cancel t m) (its_set None) (its_cancel m)) its_return_right

  its_accept : Its takes t (accept t)
  its_accept = its_say takes t unknown_group TrainAccepted

  its_reject : Its takes t (reject t)
  its_reject = its_say takes t unknown_group TrainRejected

  its_restart : (place : Place) (m : Mission) → Its takes t (restart line t place m)
  its_restart place m = its_if takes t (all_of (within m.hand) (covered line place))
      (change_mission t (λ n. record n { place = place; has_data = false; is_ended = false; proposal = None })
      >> accept t) (reject t)
      (its_then takes t
      (change_mission t (λ n. record n { place = place; has_data = false; is_ended = false; proposal = None }))
      (accept t) (its_change (λ n. record n { place = place; has_data = false; is_ended = false; proposal = None }))
      its_accept) its_reject

  its_begin : (place : Place) → Its takes t (begin line t place)
  its_begin place = its_then takes t (set_mission t (Some (begun line place))) (accept t)
      (its_set (Some (begun line place))) its_accept

  its_ask_right : Its takes t (option_map_or (λ r. send r (AskRight t)) (registrar line t) rest
      >> become (λ k. record k { has_asked = put k.has_asked t true }))
  its_ask_right = its_then takes t (option_map_or (λ r. send r (AskRight t)) (registrar line t) rest)
      (become (λ k. record k { has_asked = put k.has_asked t true }))
      (its_option takes t (registrar line t) (λ r. send r (AskRight t)) rest (λ r. its_send takes t r (AskRight t) refl)
      (its_rest takes t)) (its_asks true)

  its_announce : (group d : ℕ) (m : Mission) → Its takes t (announce line t group d m)
  its_announce group d m k =
      its_then takes t ((send d (Announce (k.announced + 1) t m.place.track)
      >> become (λ j. record j { announced = k.announced + 1 }))
      >> change_mission t (λ n. record n { handing = Some (record { number = k.announced + 1; to = d }) }))
      (say t group (Transition (start line (part_at line d m.place.track m.hand).first - group_start line m.place)
      line.nid_c (nid_rbc line d)))
      (its_then takes t (send d (Announce (k.announced + 1) t m.place.track)
      >> become (λ j. record j { announced = k.announced + 1 }))
      (change_mission t (λ n. record n { handing = Some (record { number = k.announced + 1; to = d }) }))
      (its_then takes t (send d (Announce (k.announced + 1) t m.place.track))
      (become (λ j. record j { announced = k.announced + 1 }))
      (its_send takes t d (Announce (k.announced + 1) t m.place.track) refl) (its_announced (k.announced + 1)))
      (its_change (λ n. record n { handing = Some (record { number = k.announced + 1; to = d }) })))
      (its_say takes t group
      (Transition (start line (part_at line d m.place.track m.hand).first - group_start line m.place)
      line.nid_c (nid_rbc line d))) k

  its_ask_route : (d : ℕ) (m : Mission) → Its takes t (ask_route t d m)
  its_ask_route d m = its_then takes t _ _ (its_send takes t d (RouteAsk t (next_after m.hand) _) refl)
      (its_route (Some (next_after m.hand)))

  its_border : (d : ℕ) → Its takes t (at_border line c t d)
  its_border d = its_then takes t (announce_if_due line t d) (ask_route_if_due line t d)
      (its_with takes t (λ k. k.mission t) _
      (λ m. its_where takes t _ (announce line t m.place.group d m) (its_announce m.place.group d m)))
      (its_with takes t (λ k. k.mission t) _ (λ m. its_where takes t _ (ask_route t d m) (its_ask_route d m)))

-- ## Sections are put into use

module _ (line : Line) (c t : ℕ) where
  its_start_here : (place : Place) → Its true t (start_here line t place)
  its_start_here place = its_choose true t (λ k. k.has_right t)
      ((booked is_open (Taken t) (covered line place) >> become (λ k. record k { has_right = put k.has_right t false }))
      >> begin line t place) (reject t)
      (its_then true t (booked is_open (Taken t) (covered line place)
      >> become (λ k. record k { has_right = put k.has_right t false })) (begin line t place)
      (its_then true t (booked is_open (Taken t) (covered line place))
      (become (λ k. record k { has_right = put k.has_right t false })) (its_booked t (covered line place))
      (its_right true line c t false)) (its_begin true line c t place)) (its_reject true line c t)

  its_start_waiting : (place : Place) → Its true t (start_waiting line t place)
  its_start_waiting place = its_then true t (booked is_open (Taken t) (covered line place)
      >> become (λ k. record k { wait = put k.wait t (Some place) }))
      (where_so (λ k. not (k.has_asked t)) (option_map_or (λ r. send r (AskRight t)) (registrar line t) rest
      >> become (λ k. record k { has_asked = put k.has_asked t true })))
      (its_then true t (booked is_open (Taken t) (covered line place))
      (become (λ k. record k { wait = put k.wait t (Some place) })) (its_booked t (covered line place))
      (its_wait true line c t (Some place)))
      (its_where true t (λ k. not (k.has_asked t)) (option_map_or (λ r. send r (AskRight t)) (registrar line t) rest
      >> become (λ k. record k { has_asked = put k.has_asked t true })) (its_ask_right true line c t))

  its_start_new : (place : Place) → Its true t (start_new line c t place)
  its_start_new place = its_choose true t (λ k. all_of (is_free line c k) (covered line place))
      (if is_registrar_of line c t then start_here line t place else start_waiting line t place) (reject t)
      (its_if true t (is_registrar_of line c t) (start_here line t place) (start_waiting line t place)
      (its_start_here place) (its_start_waiting place)) (its_reject true line c t)

  pub its_start : (is_valid : Bool) (position : Position) → Its true t (start_mission line c t is_valid position)
  its_start is_valid position k = of_option true t (fit_place line is_valid position) k
      (λ place. option_map_or (λ m. restart line t place m k) (k.mission t) (start_new line c t place k)) (reject t k)
      (λ place. of_option true t (k.mission t) k (λ m. restart line t place m k) (start_new line c t place k)
      (λ m. its_restart true line c t place m k) (its_start_new place k)) (its_reject true line c t k)

  its_grant : (m : Mission) → Its true t (grant line c t m)
  its_grant m k =
      let r = extension line c k m in
      let n = extended_by r m in
      its_then true t ((booked is_open (Taken t) r >> set_mission t (Some n))
      >> say t m.place.group (Authority (authority line n)))
      (option_map_or (at_border line c t) (next_centre line c m.place.track) rest)
      (its_then true t (booked is_open (Taken t) r >> set_mission t (Some n))
      (say t m.place.group (Authority (authority line n)))
      (its_then true t (booked is_open (Taken t) r) (set_mission t (Some n)) (its_booked t r)
      (its_set true line c t (Some n)))
      (its_say true t m.place.group (Authority (authority line n))))
      (its_option true t (next_centre line c m.place.track) (at_border line c t) rest
      (its_border true line c t) (its_rest true t)) k

  pub its_request : (position : Position) → Its true t (request line c t position)
  its_request position = its_with true t (λ k. k.mission t) _
      (λ m. its_option true t (place_on line m.place.track position)
      (λ place. grant line c t (record m { place = place })) rest
      (λ place. its_grant (record m { place = place })) (its_rest true t))

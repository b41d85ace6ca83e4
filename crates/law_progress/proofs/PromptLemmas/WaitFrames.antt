-- The frames and the words of the interlocking that leave each start of mission that waits as it is.
use Rattle.std.proofs.Common.{◌&&◌, ◌==◌, ◌≡◌, Bool, false, if◌then◌else◌, is_none, is_some, length, nat_lt}
use Rattle.std.proofs.Common.{None, not, refl, Some, true, ℕ}
use Rattle.law_progress.proofs.PromptLemmas.Waits.{both, chosen, if_act, if_reply, or_act, plain, some_act, Still}
use Rattle.law_progress.proofs.PromptLemmas.Waits.{still_end}
use Rattle.law_progress.proofs.PromptLemmas.Waits.{still_propose, still_rest, still_right, when}
use Rattle.rbc_spec.specs.Acts.{◌>>◌, Act, become, booked, change_mission, end_order, part_at, propose_if_so, rest}
use Rattle.rbc_spec.specs.Acts.{return_right, returned, send, yield}
use Rattle.rbc_spec.specs.Centre.{Entry, Handing, is_open, is_registrar_of, is_unused, Mission, Open, Out, Shut}
use Rattle.rbc_spec.specs.Centre.{Taken}
use Rattle.rbc_spec.specs.Frame.{Announce, AskRight, Body, Cancel, carried_place, GiveRight, RefuseRight, ReturnRight}
use Rattle.rbc_spec.specs.Frame.{RouteAsk, RouteInfo, RouteReturn, RouteWithdraw, TakingOver, Yield}
use Rattle.rbc_spec.specs.Line.{is_home, Line, section}
use Rattle.rbc_spec.specs.Links.{announced, cancelled, expect, is_train, is_under, is_wanted, lendable, may_take}
use Rattle.rbc_spec.specs.Links.{of_train}
use Rattle.rbc_spec.specs.Links.{received, right_asked, right_returned, route_asked, route_returned, route_told}
use Rattle.rbc_spec.specs.Links.{route_withdrawn, take_mission, taking_over, yielded}
use Rattle.rbc_spec.specs.Maps.{has, put}
use Rattle.rbc_spec.specs.Outcome.{Asked, Done, NotHome}
use Rattle.rbc_spec.specs.Rules.{tell}
use Rattle.rbc_spec.specs.SectionRuns.{all_of, is_empty, no_run, part_before, part_from, SectionRun, within}
use Rattle.rbc_spec.specs.Step.{make, set, unset, wished}

-- the body answers a question for a right
abbrev pub is_right_answer : Body → Bool
is_right_answer (GiveRight t) = true
is_right_answer (RefuseRight t) = true
is_right_answer body = false

module _ (line : Line) (c : ℕ) where
  frame_asked : (d t : ℕ) → Still (right_asked line c d t)
  frame_asked d t = when (λ k. is_registrar_of line c t) _
      (chosen (λ k. k.has_right t) (become (λ k. record k { has_right = put k.has_right t false })
      >> send d (GiveRight t)) (send d (RefuseRight t)) (both _ _ (λ k. plain refl) (λ k. plain refl))
      (λ k. plain refl))

  frame_back : (t : ℕ) → Still (right_returned line c t)
  frame_back t = when (λ k. is_registrar_of line c t && (not (k.has_right t) && is_none (k.mission t)))
      (return_right line c t) (still_right line c t)

  frame_lent : (d t first most : ℕ) → Still (route_asked line c d t first most)
  frame_lent d t first most k = when (λ j. is_some (section line first))
      (booked is_open (Out t) (lendable line c k first most) >> send d (RouteInfo t (lendable line c k first most)))
      (both _ _ (λ j. plain refl) (λ j. plain refl)) k

  frame_told : (d t : ℕ) (r : SectionRun) → Still (route_told line c d t r)
  frame_told d t r = when _ _ (both _ _ (λ k. plain refl)
      (chosen (λ k. has (is_wanted line r) (k.mission t)) (change_mission t (λ m. record m { pool = r }))
      (if is_empty r then rest else send d (RouteReturn t r)) (λ k. plain refl)
      (if_act (is_empty r) rest (send d (RouteReturn t r)) still_rest (λ k. plain refl))))

  frame_withdrawn : (t s : ℕ) → Still (route_withdrawn line c t s)
  frame_withdrawn t s = some_act (λ k. k.mission t) _ (λ m. if_act (within m.pool s)
      (returned line c t m.place.track (part_from s m.pool)
      >> change_mission t (λ n. record n { pool = part_before s n.pool })) (propose_if_so line t s)
      (both _ _ (λ k. plain refl) (λ k. plain refl)) (still_propose line c t s))

  frame_home : (t : ℕ) (r : SectionRun) → Still (route_returned line c t r)
  frame_home t r = both _ _ (λ k. plain refl) (when _ (end_order line c t) (still_end line c t))

  frame_yields : (t : ℕ) (m : Mission) (h : Handing) → Still (yield line c t m h)
  frame_yields t m h k = both _ _ (both _ _ (both _ _ (λ j. plain refl) (λ j. plain refl))
      (both _ _ (λ j. plain refl) (λ j. plain refl)))
      (if_act (is_empty (part_at line c m.place.track m.hand)) (end_order line c t) rest (still_end line c t)
      still_rest) k

  frame_over : (d number t : ℕ) → Still (taking_over line c d number t)
  frame_over d number t = some_act (λ k. k.mission t) _ (λ m. some_act (λ k. m.handing) _
      (λ h. when (λ k. (h.number == number) && (h.to == d)) (yield line c t m h) (frame_yields t m h)))

  frame_taken : (d t heard : ℕ) (m : Mission) → Still (take_mission line c d t heard m)
  frame_taken d t heard m = both _ _ (both _ _ (both _ _ (λ k. plain refl) (λ k. plain refl))
      (both _ _ (λ k. plain refl) (λ k. plain refl)))
      (some_act _ (propose_if_so line t) (still_propose line c t))

  of_line : (t : ℕ) (act : Act) → Still act → Still (of_train line t act)
  of_line t act is = if_act (is_train line t) act rest is still_rest

  if_so : (b : Bool) (act : Act) → Still act → Still (if b then act else rest)
  if_so b act is = if_act b act rest is still_rest

  pub frame_still : (d : ℕ) (body : Body) → is_right_answer body ≡ false → Still (received line c d body)
  frame_still d (AskRight t) other = of_line t (right_asked line c d t) (frame_asked d t)
  frame_still d (GiveRight t) other = cc
  frame_still d (RefuseRight t) other = cc
  frame_still d (ReturnRight t) other = of_line t (right_returned line c t) (frame_back t)
  frame_still d (RouteAsk t first most) other =
      of_line t (route_asked line c d t first most) (frame_lent d t first most)
  frame_still d (RouteInfo t r) other = of_line t (route_told line c d t r) (frame_told d t r)
  frame_still d (RouteWithdraw t s) other =
      of_line t _ (if_so (is_some (section line s)) (route_withdrawn line c t s) (frame_withdrawn t s))
  frame_still d (RouteReturn t r) other =
      of_line t _ (if_so (all_of (λ s. is_some (section line s)) r) (route_returned line c t r) (frame_home t r))
  frame_still d (Announce number t track) other =
      of_line t _ (if_so (nat_lt track (length line.tracks)) (announced d number t)
      (when (λ k. is_none (k.expects d t)) (expect d t (Some (record { number = number; is_taking = false })))
      (λ k. plain refl)))
  frame_still d (Cancel number t) other =
      of_line t (cancelled d number t)
      (when (λ k. is_under number (k.expects d t)) (expect d t None) (λ k. plain refl))
  frame_still d (TakingOver number t) other = of_line t (taking_over line c d number t) (frame_over d number t)
  frame_still d (Yield number t heard has_data is_ended place hand) other =
      of_line t _ (or_act (carried_place place) (yielded line c d number t hand heard has_data is_ended) rest
      (λ at. when (λ k. may_take line c k d number t at hand) _
      (frame_taken d t heard
      (record {
        place = at;
        hand = hand;
        pool = no_run;
        has_data = has_data;
        is_ended = is_ended;
        proposal = None;
        handing = None;
      }))) still_rest)

  -- ## The interlocking

  set_home : (s : ℕ) (b : Bool) → Still (become (λ j. record j { wish = put j.wish s false })
      >> ((if b then make s Open false else rest) >> tell (Done s)))
  set_home s b = both _ _ (λ j. plain refl)
      (both _ _ (if_act b (make s Open false) rest (λ j. plain refl) still_rest) (λ j. plain refl))

  pub set_still : (s : ℕ) → Still (set line c s)
  set_still s k = if_reply k (not (is_home line c s)) (tell (NotHome s) k) _ (plain refl)
      (set_home s (is_unused (k.book s)) k)

  wished_still : (s : ℕ) (e : Entry) → Still (wished line c s e)
  wished_still s (Taken t) = still_propose line c t s
  wished_still s (Out t) = λ k. plain refl
  wished_still s Shut = still_rest
  wished_still s Open = still_rest

  unset_unused : (s : ℕ) → Still (make s Shut false >> tell (Done s))
  unset_unused s = both _ _ (λ j. plain refl) (λ j. plain refl)

  unset_used : (s : ℕ) (e : Entry)
      → Still ((become (λ j. record j { wish = put j.wish s true }) >> tell (Asked s)) >> wished line c s e)
  unset_used s e = both _ _ (both _ _ (λ j. plain refl) (λ j. plain refl)) (wished_still s e)

  pub unset_still : (s : ℕ) → Still (unset line c s)
  unset_still s k = if_reply k (not (is_home line c s)) (tell (NotHome s) k) _ (plain refl)
      (if_act (is_unused (k.book s)) (make s Shut false >> tell (Done s))
      ((become (λ j. record j { wish = put j.wish s true }) >> tell (Asked s)) >> wished line c s (k.book s))
      (unset_unused s) (unset_used s (k.book s)) k)

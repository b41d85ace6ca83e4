-- The acts that several rules share are walks.
use Rattle.std.proofs.Common.{◌&&◌, ◌+◌, ◌-◌, ◌==◌, ◌≡◌, ◌≤◌, arith, false, if◌then◌else◌, None, Option, refl, Some}
use Rattle.std.proofs.Common.{subst, sym, true, ℕ}
use Rattle.std.proofs.lemmas.Bool.{and_parts, eqb-true}
use Rattle.std.specs.Option.{option_map_or}
use Rattle.law_base.proofs.WalkLemmas.Causes.{begins, goes_back, hand_to, IsAhead, May, MayBegin, no_pool, no_proposal}
use Rattle.law_base.proofs.WalkLemmas.Causes.{proposes}
use Rattle.law_base.proofs.WalkLemmas.Moves.{announces, both, branch, by_bool, by_option, changes, closes}
use Rattle.law_base.proofs.WalkLemmas.Moves.{closes_handed, either, frees, joined, lends, no_handover, phases, recalls}
use Rattle.law_base.proofs.WalkLemmas.Moves.{resting, returns, rights, says, sends, sets, step, waits_no_more, Walk}
use Rattle.law_base.proofs.WalkLemmas.Moves.{Walks, when, with, yields}
use Rattle.rbc_spec.specs.Acts.{◌>>◌, Act, announce, become, begun, booked, cancel, change_mission, close, end_order}
use Rattle.rbc_spec.specs.Acts.{freed, leave, may_propose, part_at, propose, propose_if_so, rest, return_pool}
use Rattle.rbc_spec.specs.Acts.{return_right, returned, say, send, set_mission, where_so, with_some, yield}
use Rattle.rbc_spec.specs.Centre.{Centre, Closed, Handing, is_registrar_of, is_taken_for, is_up, Mission, Out}
use Rattle.rbc_spec.specs.Frame.{Announce, Cancel, ReturnRight, Yield, yielded_place}
use Rattle.rbc_spec.specs.Line.{Line, registrar, start}
use Rattle.rbc_spec.specs.Links.{taking_over}
use Rattle.rbc_spec.specs.Maps.{put}
use Rattle.rbc_spec.specs.Message.{EndSession, ShorteningRequest, TrainAccepted, TrainRejected, Transition}
use Rattle.rbc_spec.specs.Message.{unknown_group}
use Rattle.rbc_spec.specs.Place.{covered, group_start, Place}
use Rattle.rbc_spec.specs.Rules.{accept, begin, close_session, drop_wait, reject, set_phase}
use Rattle.rbc_spec.specs.SectionRuns.{is_empty, no_run, SectionRun}
use Rattle.rbc_spec.specs.Sections.{nid_rbc}

module _ (line : Line) (c : ℕ) (may : May) (was : Centre) (t : ℕ) where
  abbrev Goes : Act → Type 0
  Goes act = Walks line c may was act

  pub propose_walks : (s : ℕ) (m : Mission) → Goes (propose line t s m)
  propose_walks s m k =
      both line c may was (say t m.place.group (ShorteningRequest (start line s - group_start line m.place)))
      (change_mission t (λ n. record n { proposal = Some (record { stamp = k.said t + 1; last_kept = s - 1 }) }))
      (λ j. step line c may was (says t m.place.group (ShorteningRequest (start line s - group_start line m.place)) j))
      (λ j. step line c may was
      (changes t (λ n. record n { proposal = Some (record { stamp = k.said t + 1; last_kept = s - 1 }) }) j
      (proposes (record { stamp = k.said t + 1; last_kept = s - 1 })))) k

  pub propose_if_walks : (s : ℕ) → Goes (propose_if_so line t s)
  propose_if_walks s = with line c may was (λ k. k.mission t)
      (λ m. where_so (may_propose line t s m) (propose line t s m))
      (λ k m has. when line c may was (may_propose line t s m) (propose line t s m) (propose_walks s m) k)

  pub end_order_walks : Goes (end_order line c t)
  end_order_walks = when line c may was (λ k. is_up (k.phase t))
      (say t unknown_group (EndSession line.nid_c (nid_rbc line c)))
      (λ k. step line c may was (says t unknown_group (EndSession line.nid_c (nid_rbc line c)) k))

  -- ## Sessions and starts

  pub drop_wait_walks : may.speaks ≡ true → Goes (drop_wait line c t)
  drop_wait_walks so = with line c may was (λ k. k.wait t) (λ place. freed line c (is_taken_for t) (covered line place)
      >> become (λ k. record k { wait = put k.wait t None }))
      (λ k place some. both line c may was (freed line c (is_taken_for t) (covered line place))
      (become (λ k. record k { wait = put k.wait t None }))
      (λ j. step line c may was (frees (is_taken_for t) (covered line place) j so))
      (λ j. step line c may was (waits_no_more t j)) k)

  pub close_session_walks : may.speaks ≡ true → Goes (close_session line c t)
  close_session_walks so = both line c may was (set_phase t Closed
      >> change_mission t (λ m. record m { proposal = None })) (drop_wait line c t)
      (both line c may was (set_phase t Closed) (change_mission t (λ m. record m { proposal = None }))
      (λ k. step line c may was (phases t Closed k))
      (λ k. step line c may was (changes t (λ m. record m { proposal = None }) k no_proposal))) (drop_wait_walks so)

  pub accept_walks : Goes (accept t)
  accept_walks k = step line c may was (says t unknown_group TrainAccepted k)

  pub reject_walks : Goes (reject t)
  reject_walks k = step line c may was (says t unknown_group TrainRejected k)

  pub begin_walks : (place : Place) → MayBegin line c may t was place → (k : Centre) → k.mission t ≡ None
      → Walk line c may was k (begin line t place k)
  begin_walks place why k none = joined (set_mission t (Some (begun line place))) (accept t) k
      (step line c may was (sets t (Some (begun line place)) k (begins place why none))) (accept_walks _)

-- ## Of the train of the event

module _ (line : Line) (c : ℕ) (may : May) (was : Centre) (t : ℕ) (its : may.train ≡ Some t) where
  abbrev Its : Act → Type 0
  Its act = Walks line c may was act

  pub leave_walks : may.speaks ≡ true → (track : ℕ) (r : SectionRun) (m : Mission) (k : Centre) → k.mission t ≡ Some m
      → r.count ≤ m.hand.count + m.pool.count → Walk line c may was k (leave line c t track r k)
  unfolding ◌>>◌
  leave_walks so track r m k has few = joined (freed line c (is_taken_for t) r) (returned line c t track r) k
      (step line c may was (frees (is_taken_for t) r k so)) (step line c may was (returns t track r m _ its has few))

  pub return_pool_walks : (m : Mission) (k : Centre) → k.mission t ≡ Some m
      → Walk line c may was k (return_pool line c t m k)
  return_pool_walks m k has =
      joined _ _ k (step line c may was (returns t m.place.track m.pool m k its has (omega arith)))
      (step line c may was (changes t (λ n. record n { pool = no_run }) _ no_pool))

  -- the handover of a mission is cancelled, if the hand has no section of the next centre
  pub recall_walks : (m : Mission) (k : Centre) → k.mission t ≡ Some m
      → ((h : Handing) → m.handing ≡ Some h → is_empty (part_at line h.to m.place.track m.hand) ≡ true)
      → Walk line c may was k (cancel t m k)
  unfolding ◌>>◌
  recall_walks m k has none = by_handing m.handing refl
    where
      by_handing : (o : Option Handing) → m.handing ≡ o
          → Walk line c may was k (option_map_or (λ h. send h.to (Cancel h.number t)
          >> change_mission t no_handover) o rest k)
      by_handing None stands = resting line c may was k
      by_handing (Some h) stands = step line c may was (recalls t m h k its has stands (none h stands))

  pub return_right_walks : Its (return_right line c t)
  return_right_walks k = either line c may was (is_registrar_of line c t)
      (become (λ j. record j { has_right = put j.has_right t true }))
      (option_map_or (λ r. send r (ReturnRight t)) (registrar line t) rest) k
      (λ here. step line c may was (rights t true k)) (λ away. by_registrar away (registrar line t) refl)
    where
      by_registrar : is_registrar_of line c t ≡ false → (o : Option ℕ) → registrar line t ≡ o
          → Walk line c may was k (option_map_or (λ r. send r (ReturnRight t)) o rest k)
      by_registrar away None none = resting line c may was k
      by_registrar away (Some r) is = step line c may was (sends r (ReturnRight t) k (goes_back t its away is))

  -- a mission closes that was m, but for its request to shorten
  pub close_walks : (m n : Mission) (k : Centre) → k.mission t ≡ Some n → n.handing ≡ m.handing
      → Walk line c may was k (close line c t m k)
  unfolding ◌>>◌
  close_walks m n k has same = joined (set_mission t None >> cancel t m) (return_right line c t) k
      (by_handing m.handing same) (return_right_walks _)
    where
      by_handing : (o : Option Handing) → n.handing ≡ o
          → Walk line c may was k
          ((set_mission t None >> option_map_or (λ h. send h.to (Cancel h.number t)
          >> change_mission t no_handover) o rest) k)
      by_handing None none = step line c may was (closes t n k has none)
      by_handing (Some h) stands = step line c may was (closes_handed t n h k its has stands)

  pub announce_walks : may.announces ≡ true → (group d : ℕ) (m : Mission) (k : Centre) → k.mission t ≡ Some m
      → m.handing ≡ None → IsAhead line c may d → k.announced ≡ was.announced
      → Walk line c may was k (announce line t group d m k)
  unfolding ◌>>◌
  announce_walks so group d m k has none ahead same =
      joined ((send d (Announce (k.announced + 1) t m.place.track)
      >> become (λ j. record j { announced = k.announced + 1 })) >> change_mission t (hand_to d (k.announced + 1)))
      (say t group (Transition (start line (part_at line d m.place.track m.hand).first - group_start line m.place)
      line.nid_c (nid_rbc line d))) k
      (step line c may was (announces t d m k its so has none ahead same))
      (step line c may was
      (says t group (Transition (start line (part_at line d m.place.track m.hand).first - group_start line m.place)
      line.nid_c (nid_rbc line d)) _))

  yield_walks : (m : Mission) (h : Handing) (k : Centre) → may.yields ≡ Some h → k.mission t ≡ Some m
      → m.handing ≡ Some h → Walk line c may was k (yield line c t m h k)
  unfolding ◌>>◌
  yield_walks m h k may_yield has stands =
      joined (goes >> gives) (if is_empty (part_at line c m.place.track m.hand) then end_order line c t else rest) k
      (joined goes gives k (joined (returned line c t m.place.track m.pool) (booked (is_taken_for t) (Out t) m.hand) k
      (step line c may was (returns t m.place.track m.pool m k its has (omega arith)))
      (step line c may was (lends (is_taken_for t) t m.hand k its)))
      (step line c may was (yields t m h (goes k).state its may_yield has stands)))
      (branch line c may was (is_empty (part_at line c m.place.track m.hand)) (end_order line c t) rest
      (end_order_walks line c may was t) (resting line c may was) _)
    where
      goes : Act
      goes = returned line c t m.place.track m.pool >> booked (is_taken_for t) (Out t) m.hand

      gives : Act
      gives = set_mission t None
          >> send h.to (Yield h.number t (option_map_or (λ n. n) (k.heard t) 0) m.has_data m.is_ended
          (yielded_place m.place) m.hand)

  pub taking_over_walks : (d number : ℕ) → may.yields ≡ Some (record { number = number; to = d })
      → Its (taking_over line c d number t)
  taking_over_walks d number so = with line c may was (λ k. k.mission t)
      (λ m. with_some (λ k. m.handing) (λ h. where_so (λ k. (h.number == number) && (h.to == d)) (yield line c t m h)))
      (λ k m has. by_option line c may was m.handing
      (λ h. where_so (λ j. (h.number == number) && (h.to == d)) (yield line c t m h) k) (rest k) k
      (λ h stands. by_bool line c may was ((h.number == number) && (h.to == d)) (yield line c t m h k) (rest k) k
      (λ due. yield_walks m h k (this h due) has stands) (λ other. resting line c may was k))
      (resting line c may was k))
    where
      this : (h : Handing) → ((h.number == number) && (h.to == d)) ≡ true → may.yields ≡ Some h
      this h due = let both = and_parts (h.number == number) (h.to == d) due in
          subst (λ x. may.yields ≡ Some (record { number = x; to = h.to })) (sym (eqb-true h.number number both.0))
          (subst (λ x. may.yields ≡ Some (record { number = number; to = x })) (sym (eqb-true h.to d both.1)) so)

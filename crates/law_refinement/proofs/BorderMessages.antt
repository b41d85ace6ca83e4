-- No message leaves a section of the next centre in a hand without an announcement.
use Rattle.std.proofs.Common.{⊎_elim, ◌&&◌, ◌*◌, ◌+◌, ◌-◌, ◌==◌, ◌∙◌, ◌≡◌, ◌≢◌, ap, Bool, false, if◌then◌else◌, is_none}
use Rattle.std.proofs.Common.{is_some, nat_le, nat_lt, None, not, Option, option_map, refl, Some, subst, sym, true, ℕ}
use Rattle.std.proofs.lemmas.Bool.{and_parts, cases_eq}
use Rattle.std.proofs.lemmas.Option.{same_Some}
use Rattle.std.specs.Option.{option_map_or}
use Rattle.law_base.proofs.LocalLemmas.Worlds.{is_ordered}
use Rattle.law_base.proofs.RulesLemmas.Places.{fit_is, placed_on}
use Rattle.law_base.proofs.RulesLemmas.SentAnswers.{report_leaves}
use Rattle.law_invariants.proofs.SoundLemmas.Held.{fit_hand, reported, same_track}
use Rattle.law_invariants.specs.Flow.Sound.{IsHandAt}
use Rattle.law_refinement.proofs.Bordering.{at_mission, both, branch, changes, ends, Good, Is, IsSo, Keeps, of_option}
use Rattle.law_refinement.proofs.Bordering.{of_some, own_is, part_of, put_so, when}
use Rattle.rbc_spec.proofs.Lists.{put_here, put_other, put_there}
use Rattle.rbc_spec.proofs.Runs.{each_within, within_part_before, within_part_from}
use Rattle.rbc_spec.proofs.Worlds.{rests_or_cuts}
use Rattle.rbc_spec.specs.Acts.{◌>>◌, Act, announce, ask_route, become, begun, booked, cancel, change_mission, close}
use Rattle.rbc_spec.specs.Acts.{end_order, leave, may_propose, part_at, propose, propose_if_so, rest, return_pool}
use Rattle.rbc_spec.specs.Acts.{return_right, say, send, set_mission, where_so, with_mission, yield}
use Rattle.rbc_spec.specs.Centre.{Centre, Handing, is_free, is_open, is_registrar_of, is_up, Mission, Proposal, Taken}
use Rattle.rbc_spec.specs.Frame.{AskRight, Cancel}
use Rattle.rbc_spec.specs.Line.{end, is_home, IsLine, Line, next_centre, registrar}
use Rattle.rbc_spec.specs.Links.{taking_over}
use Rattle.rbc_spec.specs.Maps.{put}
use Rattle.rbc_spec.specs.Message.{Authority, EndSession, unknown_group}
use Rattle.rbc_spec.specs.Place.{covered, fit_place, Place, place_on, Position}
use Rattle.rbc_spec.specs.Rules.{accept, announce_if_due, answer_granted, ask_route_if_due, at_border, authority, begin}
use Rattle.rbc_spec.specs.Rules.{clear, close_session, cut, drop_wait, end_mission, extended_by, extension, grant}
use Rattle.rbc_spec.specs.Rules.{granted, reject, report, report_here, request, restart, stand_still, start_here}
use Rattle.rbc_spec.specs.Rules.{start_mission, start_new, start_waiting, take_over}
use Rattle.rbc_spec.specs.SectionRuns.{all_of, is_empty, joined, most_in_hand, next_after, no_run, part_before}
use Rattle.rbc_spec.specs.SectionRuns.{part_from, SectionRun, within}
use Rattle.rbc_spec.specs.Sections.{is_on, nid_rbc}

abbrev without_handing : Mission → Mission
without_handing n = record n { handing = None }

module _ (line : Line) (ok : IsLine line) (c t : ℕ) where
  leave_keeps : (track : ℕ) (r : SectionRun) → Keeps line c (leave line c t track r)
  leave_keeps track r = both line c _ _ (record { each = λ k good. good }) (record { each = λ k good. good })

  pub return_keeps : Keeps line c (return_right line c t)
  return_keeps = branch line c (is_registrar_of line c t) _ _ (record { each = λ k good. good })
      (of_option line c (registrar line t) _ _ (λ r. record { each = λ k good. good })
      (record { each = λ k good. good }))

  ended_keeps : (m : Mission) → Keeps line c (set_mission t None >> cancel t m)
  unfolding ◌>>◌
  ended_keeps m = record { each = λ k good. by_handing k good m.handing }
    where
      by_handing : (k : Centre) → Good line c k → (o : Option Handing)
          → Good line c
          ((set_mission t None >> option_map_or (λ h. send h.to (Cancel h.number t)
          >> change_mission t (λ n. record n { handing = None })) o rest) k).state
      by_handing k good None = put_so line c k.mission good t None tt
      by_handing k good (Some h) = put_so line c (put k.mission t None) (put_so line c k.mission good t None tt) t
          (option_map without_handing (put k.mission t None t))
          (subst (λ (o : Option Mission). IsSo line c (option_map without_handing o))
          (sym (put_there k.mission t None)) tt)

  close_keeps : (m : Mission) → Keeps line c (close line c t m)
  close_keeps m = both line c _ _ (ended_keeps m) return_keeps

  pub propose_keeps : (s : ℕ) → Keeps line c (propose_if_so line t s)
  propose_keeps s = of_some line c (λ k. k.mission t) (λ m. where_so (may_propose line t s m) (propose line t s m))
      (λ m. when line c (may_propose line t s m) (propose line t s m)
      (record {
        each = λ k good. (both line c _ _ (record { each = λ j g. g }) (changes line c t _ (λ n so. so))).each
            k good;
      }))

  pub end_keeps : Keeps line c (end_order line c t)
  end_keeps = when line c (λ k. is_up (k.phase t)) (say t unknown_group (EndSession line.nid_c (nid_rbc line c)))
      (record { each = λ k good. good })

  yield_keeps : (m : Mission) (h : Handing) → Keeps line c (yield line c t m h)
  yield_keeps m h = record {
    each = λ k good.
        (both line c _ _ (both line c _ _ (both line c _ _ (record { each = λ j g. g }) (record { each = λ j g. g }))
        (both line c _ _ (ends line c t) (record { each = λ j g. g })))
        (branch line c (is_empty (part_at line c m.place.track m.hand)) (end_order line c t) rest end_keeps
        (record { each = λ j g. g }))).each k good;
  }

  pub over_keeps : (d number : ℕ) → Keeps line c (taking_over line c d number t)
  over_keeps d number = of_some line c (λ k. k.mission t) _
      (λ m. of_some line c (λ k. m.handing) _
      (λ h. when line c (λ k. (h.number == number) && (h.to == d)) _ (yield_keeps m h)))

  pub drop_keeps : Keeps line c (drop_wait line c t)
  drop_keeps =
      of_some line c _ _ (λ place. both line c _ _ (record { each = λ k good. good })
      (record { each = λ k good. good }))

  pub close_session_keeps : Keeps line c (close_session line c t)
  close_session_keeps =
      both line c _ _ (both line c _ _ (record { each = λ k good. good }) (changes line c t _ (λ m so. so))) drop_keeps

  -- ## Starts

  pub begun_so : (place : Place) → ((s : ℕ) → within (covered line place) s ≡ true → is_home line c s ≡ true)
      → IsSo line c (Some (begun line place))
  begun_so place own = λ d next none. own_is line ok c d place.track (covered line place) own next

  waiting : (place : Place) → Keeps line c (start_waiting line t place)
  waiting place = both line c _ _ (both line c _ _ (record { each = λ j g. g }) (record { each = λ j g. g }))
      (when line c (λ k. not (k.has_asked t)) (option_map_or (λ r. send r (AskRight t)) (registrar line t) rest
      >> become (λ k. record k { has_asked = put k.has_asked t true }))
      (both line c _ _ (of_option line c (registrar line t) _ _ (λ r. record { each = λ j g. g })
      (record { each = λ j g. g })) (record { each = λ j g. g })))

  pub start_good : (is_valid : Bool) (position : Position) (k : Centre)
      → ((m : Mission) → k.mission t ≡ Some m → IsHandAt line m.place m.hand) → Good line c k
      → Good line c (start_mission line c t is_valid position k).state
  unfolding ◌>>◌
  start_good is_valid position k hands good = by_place (fit_place line is_valid position) refl
    where
      moved : Place → Mission → Mission
      moved place n = record n { place = place; has_data = false; is_ended = false; proposal = None }

      again : (place : Place) → fit_place line is_valid position ≡ Some place → (m : Mission) → k.mission t ≡ Some m
          → (b : Bool) → all_of (within m.hand) (covered line place) ≡ b
          → Good line c
          ((if b then (change_mission t
          (λ n. record n { place = place; has_data = false; is_ended = false; proposal = None })
          >> accept t) else reject t) k).state
      again place is m at true all =
          let fit = fit_is line is_valid position place is in
          let hand = fit_hand line (is_ordered line ok) place fit.0 (reported line position place fit.1) in
          let same = same_track line m.place place m.hand (hands m at) hand all in
          put_so line c k.mission good t (option_map (moved place) (k.mission t))
          (subst (λ o. IsSo line c (option_map (moved place) o)) (sym at)
          (λ d next none. subst (λ track. is_empty (part_at line d track m.hand) ≡ true) (sym same)
          (at_mission line c k t m at good d (subst (λ track. next_centre line c track ≡ Some d) same next) none)))
      again place is m at false all = good

      here : (place : Place) → all_of (is_free line c k) (covered line place) ≡ true → (b : Bool)
          → Good line c
          (if b then ((booked is_open (Taken t) (covered line place)
          >> become (λ k. record k { has_right = put k.has_right t false }))
          >> begin line t place) k else reject t k).state
      here place free true = put_so line c k.mission good t (Some (begun line place))
          (begun_so place
          (λ s in_place.
          (and_parts (is_home line c s) (is_open (k.book s))
          (each_within (is_free line c k) (covered line place) free s in_place)).0))
      here place free false = good

      fresh : (place : Place) (b : Bool) → all_of (is_free line c k) (covered line place) ≡ b → (r : Bool)
          → Good line c (if b then (if r then start_here line t place else start_waiting line t place)
          k else reject t k).state
      fresh place true free true = here place free (k.has_right t)
      fresh place true free false = (waiting place).each k good
      fresh place false free r = good

      by_mission : (place : Place) → fit_place line is_valid position ≡ Some place
          → (o : Option Mission) → k.mission t ≡ o
          → Good line c (option_map_or (λ m. restart line t place m k) o (start_new line c t place k)).state
      by_mission place is (Some m) at = again place is m at (all_of (within m.hand) (covered line place)) refl
      by_mission place is None at = fresh place (all_of (is_free line c k) (covered line place))
          refl (is_registrar_of line c t)

      by_place : (o : Option Place) → fit_place line is_valid position ≡ o
          → Good line c
          (option_map_or (λ place. option_map_or (λ m. restart line t place m k) (k.mission t)
          (start_new line c t place k)) o (reject t k)).state
      by_place None is = good
      by_place (Some place) is = by_mission place is (k.mission t) refl

  -- ## Reports

  here_good : (position : Position) (m : Mission) (k : Centre) → k.mission t ≡ Some m → Good line c k
      → Good line c (report_here line c t position m k).state
  unfolding ◌>>◌
  here_good position m k at good = by_place (place_on line m.place.track position) refl
    where
      cleared_so : (place : Place) → place_on line m.place.track position ≡ Some place → (cut_at : ℕ)
          → IsSo line c (Some (record m { place = place; hand = part_from cut_at m.hand }))
      cleared_so place is cut_at = λ d next none.
          let same = (placed_on line m.place.track position place is).track_is in
          subst (λ track. is_empty (part_at line d track (part_from cut_at m.hand)) ≡ true) (sym same)
          (part_of line d m.place.track m.hand (part_from cut_at m.hand)
          (λ s in_less.
          (and_parts (within m.hand s) (nat_le cut_at s) (sym (within_part_from m.hand cut_at s) ∙ in_less)).0)
          (at_mission line c k t m at good d (subst (λ track. next_centre line c track ≡ Some d) same next) none))

      by_all : (place : Place) → place_on line m.place.track position ≡ Some place → (r : SectionRun) (b : Bool)
          → Good line c ((if b then (leave line c t m.place.track (joined m.hand m.pool) >> close line c t m)
          else (leave line c t m.place.track r
          >> set_mission t (Some (record m { place = place; hand = part_from (next_after r) m.hand })))) k).state
      by_all place is r true =
          (both line c _ _ (leave_keeps m.place.track (joined m.hand m.pool)) (close_keeps m)).each k good
      by_all place is r false = put_so line c k.mission good t _ (cleared_so place is (next_after r))

      by_place : (o : Option Place) → place_on line m.place.track position ≡ o
          → Good line c (option_map_or (clear line c t m) o rest k).state
      by_place None is = good
      by_place (Some place) is = by_all place is _ _

  with_here : (position : Position) (k : Centre) → Good line c k → (o : Option Mission) → k.mission t ≡ o
      → Good line c (option_map_or (λ m. report_here line c t position m k) o (rest k)).state
  with_here position k good None at = good
  with_here position k good (Some m) at = here_good position m k at good

  pub report_good : (position : Position) (k : Centre) → Good line c k → Good line c (report line c t position k).state
  unfolding ◌>>◌
  report_good position k good = by_mission (k.mission t) refl
    where
      by_mission : (o : Option Mission) → k.mission t ≡ o
          → Good line c (option_map_or (λ m. report_here line c t position m k) o (take_over line t k)).state
      by_mission None at = good
      by_mission (Some m) at = here_good position m k at good

  -- ## Shortening

  abbrev unasked : Mission → Mission
  unasked n = record n { proposal = None }

  -- the hand is cut, if the handover is to the next centre
  cut_good : (last_kept : ℕ) (m : Mission) (j : Centre) → Is line c m
      → ((h : Handing) → m.handing ≡ Some h → next_centre line c m.place.track ≡ Some h.to) → Good line c j
      → Good line c (cut line c t last_kept m j).state
  unfolding ◌>>◌
  cut_good last_kept m j is to_next good = by_tail ((part_from (last_kept + 1) m.hand).count == m.hand.count)
    where
      kept : Mission
      kept = record m { hand = part_before (last_kept + 1) m.hand; pool = no_run; proposal = None }

      kept_is : Is line c kept
      kept_is d next none = part_of line d m.place.track m.hand (part_before (last_kept + 1) m.hand)
          (λ s in_less. (and_parts (within m.hand s) (nat_lt s (last_kept + 1))
          (sym (within_part_before m.hand (last_kept + 1) s) ∙ in_less)).0) (is d next none)

      goes : Act
      goes = leave line c t m.place.track (joined (part_from (last_kept + 1) m.hand) m.pool)

      -- a handover that is cancelled was to the next centre, of which no section is left
      cancelled_so : (x : Centre) (h : Handing) → m.handing ≡ Some h
          → is_empty (part_at line h.to m.place.track (part_before (last_kept + 1) m.hand)) ≡ true
          → IsSo line c (option_map without_handing (put x.mission t (Some kept) t))
      cancelled_so x h at none = subst (λ (o : Option Mission). IsSo line c (option_map without_handing o))
          (sym (put_there x.mission t (Some kept)))
          (λ d next unannounced.
          subst (λ e. is_empty (part_at line e m.place.track (part_before (last_kept + 1) m.hand)) ≡ true)
          (same_Some h.to d (sym (to_next h at) ∙ next)) none)

      by_part : (x : Centre) → Good line c x → (h : Handing) → m.handing ≡ Some h → (o : Option Handing) → o ≡ Some h
          → (b : Bool) → is_empty (part_at line h.to m.place.track (part_before (last_kept + 1) m.hand)) ≡ b
          → Good line c
          ((if b then option_map_or (λ e. send e.to (Cancel e.number t)
          >> change_mission t (λ n. record n { handing = None })) o rest else rest)
          (record x { mission = put x.mission t (Some kept) })).state
      by_part x so h at None is_none true none = cc
      by_part x so h at (Some e) is_some true none =
          put_so line c (put x.mission t (Some kept)) (put_so line c x.mission so t (Some kept) kept_is) t
          (option_map without_handing (put x.mission t (Some kept) t)) (cancelled_so x h at none)
      by_part x so h at o is_o false none = put_so line c x.mission so t (Some kept) kept_is

      by_handing : (x : Centre) → Good line c x → (o : Option Handing) → m.handing ≡ o
          → Good line c
          (option_map_or (λ h. if is_empty (part_at line h.to m.place.track kept.hand) then cancel t kept else rest)
          o rest (record x { mission = put x.mission t (Some kept) })).state
      by_handing x so None at = put_so line c x.mission so t (Some kept) kept_is
      by_handing x so (Some h) at =
          by_part x so h at m.handing at
          (is_empty (part_at line h.to m.place.track (part_before (last_kept + 1) m.hand))) refl

      by_tail : (b : Bool) → Good line c ((goes >> (if b then close line c t m else (set_mission t (Some kept)
          >> option_map_or (λ h. if is_empty (part_at line h.to m.place.track kept.hand) then cancel t kept else rest)
          m.handing rest))) j).state
      by_tail true =
          (both line c _ _ (leave_keeps m.place.track (joined (part_from (last_kept + 1) m.hand) m.pool))
          (close_keeps m)).each j good
      by_tail false =
          by_handing (goes j).state ((leave_keeps m.place.track (joined (part_from (last_kept + 1) m.hand) m.pool)).each
          j good) m.handing refl

  pub granted_good : (position : Position) (k : Centre)
      → ((m : Mission) → k.mission t ≡ Some m → (h : Handing) → m.handing ≡ Some h
      → next_centre line c m.place.track ≡ Some h.to) → Good line c k
      → Good line c (answer_granted line c t position k).state
  unfolding ◌>>◌
  granted_good position k to_next good = by_mission (k.mission t) refl
    where
      j : Centre
      j = (change_mission t unasked k).state

      good_j : Good line c j
      good_j = (changes line c t unasked (λ n so. so)).each k good

      by_time : (m : Mission) → k.mission t ≡ Some m → (p : Proposal) (b : Bool)
          → Good line c ((if b then cut line c t p.last_kept m else rest) j).state
      by_time m at p true = cut_good p.last_kept m j (at_mission line c k t m at good) (to_next m at) good_j
      by_time m at p false = good_j

      by_place : (m : Mission) → k.mission t ≡ Some m → (p : Proposal) (o : Option Place)
          → Good line c
          (option_map_or (λ place. if nat_le place.front (10 * end line p.last_kept) then cut line c t p.last_kept
          m else rest) o rest j).state
      by_place m at p None = good_j
      by_place m at p (Some place) = by_time m at p (nat_le place.front (10 * end line p.last_kept))

      by_proposal : (m : Mission) → k.mission t ≡ Some m → (o : Option Proposal)
          → Good line c (option_map_or (λ p. granted line c t position m p k) o (rest k)).state
      by_proposal m at None = good
      by_proposal m at (Some p) = by_place m at p (place_on line m.place.track position)

      by_mission : (o : Option Mission) → k.mission t ≡ o
          → Good line c (option_map_or (λ m. option_map_or (λ p. granted line c t position m p k) m.proposal (rest k))
          o (rest k)).state
      by_mission None at = good
      by_mission (Some m) at = by_proposal m at m.proposal

  -- ## End of mission

  -- each handover is to the next centre of its mission's track
  abbrev GoesOnward : Centre → Type 0
  GoesOnward k = (m : Mission) → k.mission t ≡ Some m → (h : Handing) → m.handing ≡ Some h
      → next_centre line c m.place.track ≡ Some h.to

  stood_good : (position : Position) (k : Centre) → GoesOnward k → Good line c k
      → Good line c (with_mission t (stand_still line c t position) k).state
  stood_good position k onward good = by_mission (k.mission t) refl
    where
      by_mission : (o : Option Mission) → k.mission t ≡ o
          → Good line c (option_map_or (λ m. stand_still line c t position m k) o (rest k)).state
      by_mission None none = good
      by_mission (Some m) at = rests_or_cuts (λ act. Good line c (act k).state) line c t position m good
          (λ n some fits. cut_good (m.hand.first + n - 1) m k (at_mission line c k t m at good) (onward m at) good)

  abbrev finishes : Act
  finishes = with_mission t (λ m. return_pool line c t m
      >> change_mission t (λ n. record n { is_ended = true; proposal = None }))

  finishes_keeps : Keeps line c finishes
  finishes_keeps = of_some line c (λ k. k.mission t) (λ m. return_pool line c t m
      >> change_mission t (λ n. record n { is_ended = true; proposal = None }))
      (λ m. both line c _ _ (both line c _ _ (record { each = λ j g. g })
      (changes line c t (λ n. record n { pool = no_run }) (λ n so. so)))
      (changes line c t (λ n. record n { is_ended = true; proposal = None }) (λ n so. so)))

  pub end_good : (position : Position) (k : Centre) → GoesOnward k → Good line c k
      → Good line c (end_mission line c t position k).state
  unfolding ◌>>◌
  end_good position k onward good = finishes_keeps.each (with_mission t (stand_still line c t position) reported).state
      (stood_good position reported onward_still (with_here position k good (k.mission t) refl))
    where
      reported : Centre
      reported = (with_mission t (report_here line c t position) k).state

      onward_still : GoesOnward reported
      onward_still n at h stands = let was = report_leaves line c t position k n at in
          ap (next_centre line c) was.2.track ∙ onward was.0 was.1 h (sym was.2.handing ∙ stands)

  -- ## Requests

  ask_keeps : (d : ℕ) → Keeps line c (ask_route_if_due line t d)
  ask_keeps d = of_some line c (λ k. k.mission t) (λ m. where_so (may_ask d m) (ask_route t d m))
      (λ m. when line c (may_ask d m) (ask_route t d m)
      (both line c _ _ (record { each = λ j g. g }) (record { each = λ j g. g })))
    where
      may_ask : ℕ → Mission → Centre → Bool
      may_ask d m k = ((is_home line d (next_after m.hand) && is_on line m.place.track (next_after m.hand))
          && nat_lt m.hand.count most_in_hand) && (is_empty m.pool && is_none (k.route_ask t))

  abbrev announced_as : ℕ → ℕ → Mission → Mission
  announced_as number d q = record q { handing = Some (record { number = number; to = d }) }

  unfilled : (a e : Bool) → a ≡ true → (a && not e) ≡ false → e ≡ true
  unfilled true true h is = refl
  unfilled true false h is = cc
  unfilled false e h is = cc

  -- if the hand has a section of the next centre, a handover is announced
  announces_so : (j : Centre) (n : Mission) (d : ℕ) → j.mission t ≡ Some n → next_centre line c n.place.track ≡ Some d
      → ((u : ℕ) → u ≢ t → IsSo line c (j.mission u)) → Good line c (announce_if_due line t d j).state
  unfolding ◌>>◌
  announces_so j n d at next others = subst (λ (o : Option Mission). Good line c (option_map_or
      (λ m. if is_none m.handing && not (is_empty (part_at line d m.place.track m.hand)) then announce line t
      m.place.group d m j else rest j) o (rest j)).state) (sym at)
      (by_test (is_none n.handing && not (is_empty (part_at line d n.place.track n.hand))) refl)
    where
      told : IsSo line c (option_map (announced_as (j.announced + 1) d) (j.mission t))
      told = subst (λ (o : Option Mission). IsSo line c (option_map (announced_as (j.announced + 1) d) o))
          (sym at) (λ e next_is none. cc)

      by_test : (b : Bool) → (is_none n.handing && not (is_empty (part_at line d n.place.track n.hand))) ≡ b
          → Good line c (if b then announce line t n.place.group d n j else rest j).state
      by_test true due u = ⊎_elim
          (λ (here : u ≡ t). subst (IsSo line c)
          (sym (put_here j.mission t u (option_map (announced_as (j.announced + 1) d) (j.mission t)) here)) told)
          (λ (apart : u ≢ t). subst (IsSo line c)
          (sym (put_other j.mission t u (option_map (announced_as (j.announced + 1) d) (j.mission t)) apart))
          (others u apart))
          (cases_eq u t)
      by_test false idle u = ⊎_elim
          (λ (here : u ≡ t). subst (λ x. IsSo line c (j.mission x)) (sym here) (subst (IsSo line c) (sym at)
          (λ e next_is none. subst (λ x. is_empty (part_at line x n.place.track n.hand) ≡ true)
          (same_Some d e (sym next ∙ next_is))
          (unfilled (is_none n.handing) (is_empty (part_at line d n.place.track n.hand)) (ap is_none none) idle))))
          (λ (apart : u ≢ t). others u apart)
          (cases_eq u t)

  pub request_good : (position : Position) (k : Centre) → Good line c k
      → Good line c (request line c t position k).state
  unfolding ◌>>◌
  request_good position k good = by_mission (k.mission t)
    where
      longer : Mission → Centre
      longer m =
          (((booked is_open (Taken t) (extension line c k m)
          >> set_mission t (Some (extended_by (extension line c k m) m)))
          >> say t m.place.group (Authority (authority line (extended_by (extension line c k m) m)))) k).state

      by_next : (m : Mission) (o : Option ℕ) → next_centre line c m.place.track ≡ o
          → Good line c (option_map_or (at_border line c t) o rest (longer m)).state
      by_next m None next = put_so line c k.mission good t (Some (extended_by (extension line c k m) m))
          (λ d next_is none. let wrong : None ≡ Some d = sym next ∙ next_is in cc)
      by_next m (Some d) next = (ask_keeps d).each (announce_if_due line t d (longer m)).state
          (announces_so (longer m) (extended_by (extension line c k m) m) d
          (put_there k.mission t (Some (extended_by (extension line c k m) m))) next
          (λ u apart. subst (IsSo line c)
          (sym (put_other k.mission t u (Some (extended_by (extension line c k m) m)) apart)) (good u)))

      by_place : (m : Mission) (o : Option Place)
          → Good line c (option_map_or (λ place. grant line c t (record m { place = place })) o rest k).state
      by_place m None = good
      by_place m (Some place) = by_next (record m { place = place }) (next_centre line c place.track) refl

      by_mission : (o : Option Mission)
          → Good line c
          (option_map_or (λ m. option_map_or (λ place. grant line c t (record m { place = place }))
          (place_on line m.place.track position) rest k) o (rest k)).state
      by_mission None = good
      by_mission (Some m) = by_place m (place_on line m.place.track position)

use Rattle.std.proofs.Common.{[], ◌&&◌, ◌<◌, ◌==◌, ◌∙◌, ◌∷◌, ◌≡◌, ap, arith, Bool, false, if◌then◌else◌, inl, inr, List}
use Rattle.std.proofs.Common.{map, None, Option, option_map, refl, slice_get, Some, subst, suc, sym, true, zero, ℕ}
use Rattle.std.proofs.lemmas.Bool.{and_from, and_parts, both_ways, cond-false, eqb-true, lt-ltb, ltb-true}
use Rattle.std.proofs.lemmas.Option.{same_Some}
use Rattle.std.specs.List.{find}
use Rattle.std.specs.Prelude.{Contains}
use Rattle.law_base.proofs.CountingLemmas.Places.{held_carried_le_placed, held_le_placed, placed_parts}
use Rattle.law_base.proofs.CountingLemmas.Sums.{links_some, one_if_some, one_if_true, sum_some}
use Rattle.law_base.specs.Counting.Network.{way}
use Rattle.law_base.specs.Counting.Resource.{carried, placed}
use Rattle.law_base.specs.Counting.Sums.{one_if, sum_below}
use Rattle.law_base.specs.Local.Local.{hand_has}
use Rattle.law_invariants.proofs.FlowLemmas.Lists.{carried_contains, itself, known_there, one_home}
use Rattle.law_invariants.proofs.FlowLemmas.Seats.{at_centre, carried_some, first_seat, none_held, nothing_sent}
use Rattle.law_invariants.proofs.FlowLemmas.Seats.{on_link, on_the_way, one_seat, Seat, seat_first, seat_known}
use Rattle.law_invariants.proofs.FlowLemmas.Seats.{some_seat, yield_seat}
use Rattle.law_invariants.proofs.FlowLemmas.Shown.{given_mark, given_shown, only_given_shown, used_in_hand}
use Rattle.law_invariants.specs.Flow.Counts.{hand_inside, hands, missions}
use Rattle.law_invariants.specs.Flow.Flow.{centre_count, flow_of}
use Rattle.law_invariants.specs.Flow.Shows.{is_in_hand, parted, shown, Shows}
use Rattle.law_invariants.specs.Flow.Sound.{IsFlowSound}
use Rattle.rbc_spec.proofs.Held.{found_passes, held_as}
use Rattle.rbc_spec.proofs.Runs.{same_tests}
use Rattle.rbc_spec.specs.Centre as centre
use Rattle.rbc_spec.specs.Centre.{Entry, is_used_for, Open, Out, Shut, Taken}
use Rattle.rbc_spec.specs.Frame.{Body, Yield, yielded_place}
use Rattle.rbc_spec.specs.Line.{is_centre, is_home, Line, Section, section, Train}
use Rattle.rbc_spec.specs.LineCentre as line_centre
use Rattle.rbc_spec.specs.LineCentre.{is_given_to, LineState}
use Rattle.rbc_spec.specs.Maps.{has}
use Rattle.rbc_spec.specs.Promises.{is_given}
use Rattle.rbc_spec.specs.ReadOff.{Held, held, holder, mark_of, seen, StandsFor}
use Rattle.rbc_spec.specs.SectionRuns.{within}
use Rattle.rbc_spec.specs.World.{World}

-- ## Who is found among the line's trains

-- if the test fails for all engines of the line
none_found : (test : ℕ → Bool) (ps : List Train) → find test (map (λ p. p.nid_engine) ps) ≡ None → (i : ℕ) (p : Train)
    → slice_get ps i ≡ Some p → test p.nid_engine ≡ false
none_found test [] none i p at = cc
none_found test (q ∷ qs) none i p at =
    by_test (test q.nid_engine) refl none i at (λ e j there. none_found test qs e j p there)
  where
    by_test : (b : Bool) → test q.nid_engine ≡ b
        → (if b then Some q.nid_engine else find test (map (λ (r : Train). r.nid_engine) qs)) ≡ None → (j : ℕ)
        → slice_get (q ∷ qs) j ≡ Some p
        → (find test (map (λ (r : Train). r.nid_engine) qs) ≡ None → (k : ℕ) → slice_get qs k ≡ Some p
        → test p.nid_engine ≡ false) → test p.nid_engine ≡ false
    by_test true passes e j there later = cc
    by_test false fails e zero there later = ap (λ (r : Train). test r.nid_engine) (sym (same_Some q p there)) ∙ fails
    by_test false fails e (suc j) there later = later e j there

module _ (line : Line) (w : World) (sound : IsFlowSound line (flow_of w)) (v : LineState)
    (sees : Shows line (flow_of w) v) where
  -- a counted section is in the hand of the train's mission
  pub found : (t s : ℕ) → is_in_hand line (flow_of w) s t ≡ true → is_given line w t s ≡ true
  found t s is = by_centres (sum_below (centre_count line) (λ c. (hands t s).held c (w.at c))) refl
    where
      some : 0 < placed (hands t s) (centre_count line) (flow_of w)
      some = ltb-true 0 (placed (hands t s) (centre_count line) (flow_of w)) is

      by_seat : (h : Held) → Seat w t h → within h.hand s ≡ true → is_given line w t s ≡ true
      by_seat h seat inside = ap (has (λ (x : Held). within x.hand s)) (seat_first line w sound t h seat) ∙ inside

      at : (c : ℕ) (o : Option centre.Mission) → (w.at c).mission t ≡ o → hand_has o s ≡ true
          → is_given line w t s ≡ true
      at c None here has = cc
      at c (Some m) here has = by_seat (held_as (seen c m) m.hand) (at_centre c m here) has

      from_link : (a b : ℕ) (f : Body) → Contains (way (flow_of w) a b) f → 0 < hand_inside t s f
          → is_given line w t s ≡ true
      from_link a b (Yield number u heard has_data is_ended place hand) there has =
          let both = and_parts (u == t) (within hand s) (one_if_some _ has) in
          let seat = yield_seat line w sound a b number t u heard has_data is_ended place hand
          there (eqb-true u t both.0) in
          by_seat (held_as (parted heard has_data is_ended seat.0) hand) seat.1 both.1
      from_link a b f there has = absurd (let no : ⊥ = omega (arith, has) in no)

      by_centres : (m : ℕ) → sum_below (centre_count line) (λ c. (hands t s).held c (w.at c)) ≡ m
          → is_given line w t s ≡ true
      by_centres zero none =
          let link = links_some (centre_count line) (λ a b. carried (hands t s) a b (way (flow_of w) a b))
          (omega (arith, none, some, placed_parts (hands t s) (centre_count line) (flow_of w))) in
          let body = carried_some (hands t s) link.0 link.1 (way (flow_of w) link.0 link.1) link.4 in
          from_link link.0 link.1 body.0 body.1 body.2
      by_centres (suc m) has =
          let who = sum_some (centre_count line) (λ c. (hands t s).held c (w.at c)) (omega (arith, has)) in
          at who.0 ((w.at who.0).mission t) refl (one_if_some _ who.2)

  -- a section in that hand is counted
  pub counted : (t s : ℕ) → is_given line w t s ≡ true → is_in_hand line (flow_of w) s t ≡ true
  counted t s given = by_held (held line w t) refl given
    where
      more : (m : ℕ) → 0 < placed (hands t s) (centre_count line) (flow_of w) → is_in_hand line (flow_of w) s t ≡ true
      more m some = lt-ltb 0 (placed (hands t s) (centre_count line) (flow_of w)) some

      centre_has : (c : ℕ) (m : centre.Mission) (b : Bool) → is_centre line c ≡ b → (w.at c).mission t ≡ Some m
          → within m.hand s ≡ true → is_in_hand line (flow_of w) s t ≡ true
      centre_has c m true at has in_hand = more 0 (omega (
        arith,
        held_le_placed (hands t s) (centre_count line) (flow_of w) c (ltb-true c (centre_count line) at),
        ap (λ o. one_if (hand_has o s)) has,
        one_if_true (within m.hand s) in_hand,
      ))
      centre_has c m false at has in_hand =
          absurd (let wrong : ◌≡◌ {A = Option centre.Mission} None (Some m) = sym (sound.no_mission c t at) ∙ has in cc)

      link_has : (a b : ℕ) (x z : Bool) → is_centre line a ≡ x → is_centre line b ≡ z → (f : Body)
          → Contains (way (flow_of w) a b) f → hand_inside t s f ≡ 1 → is_in_hand line (flow_of w) s t ≡ true
      link_has a b true true from to f is one = more 0 (omega (
        arith,
        held_carried_le_placed (hands t s) (centre_count line) (flow_of w) a a b (ltb-true a (centre_count line) from)
            (ltb-true a (centre_count line) from) (ltb-true b (centre_count line) to),
        carried_contains (hands t s) a b (way (flow_of w) a b) f is,
        one,
      ))
      link_has a b false z from to f is one = absurd (nothing_sent (flow_of w) a b (sound.no_sent a b (inl from)) f is)
      link_has a b true false from to f is one = absurd (nothing_sent (flow_of w) a b (sound.no_sent a b (inr to)) f is)

      by_seat : (h : Held) → Seat w t h → within h.hand s ≡ true → is_in_hand line (flow_of w) s t ≡ true
      by_seat h (at_centre c m has) inside = centre_has c m (is_centre line c) refl has inside
      by_seat h (on_the_way a b f number heard has_data is_ended place hand on is) inside =
          link_has a b (is_centre line a) (is_centre line b) refl refl
          (Yield number t heard has_data is_ended (yielded_place place) hand) (on_link w a b f _ on is)
          (one_if_true ((t == t) && within hand s) (and_from (t == t) (within hand s) (itself t) inside))

      by_held : (o : Option Held) → held line w t ≡ o → has (λ (h : Held). within h.hand s) o ≡ true
          → is_in_hand line (flow_of w) s t ≡ true
      by_held None none inside = cc
      by_held (Some h) is inside = by_seat h (first_seat line w sound t h is) inside

  -- ## Missions

  mission_is : (t : ℕ) → v.mission t ≡ option_map (λ (h : Held). h.mission) (held line w t)
  mission_is t = by_count (placed (missions t) (centre_count line) (flow_of w)) refl
    where
      shown_so : (h : Held) → Seat w t h → v.mission t ≡ Some h.mission
      shown_so h (at_centre c m has) = sees.mission t c m has
      shown_so h (on_the_way a b f number heard has_data is_ended place hand on is) =
          sees.on_way a b number t heard has_data is_ended place hand (on_link w a b f _ on is)

      by_count : (k : ℕ) → placed (missions t) (centre_count line) (flow_of w) ≡ k
          → v.mission t ≡ option_map (λ (h : Held). h.mission) (held line w t)
      by_count zero none = sees.no_mission t none
          ∙ sym (ap (option_map (λ (h : Held). h.mission)) (none_held line w sound t none))
      by_count (suc k) some =
          let seat = some_seat line w sound t (omega (arith, some)) in
          shown_so seat.0 seat.1
          ∙ sym (ap (option_map (λ (h : Held). h.mission)) (seat_first line w sound t seat.0 seat.1))

  -- ## Marks

  -- a section in a hand is in use at its home
  used_there : (t s c : ℕ) → is_home line c s ≡ true → is_in_hand line (flow_of w) s t ≡ true
      → is_used_for t ((w.at c).book s) ≡ true
  used_there t s c home in_hand =
      let used = used_in_hand line (flow_of w) sound t s in_hand in
      subst (λ h. is_used_for t ((w.at h).book s) ≡ true) (one_home line used.0 c s used.1 home) used.2

  abbrev holds : ℕ → ℕ → Bool
  holds s t = is_given line w t s

  holder_counted : (s t : ℕ) → holder line w s ≡ Some t → is_in_hand line (flow_of w) s t ≡ true
  holder_counted s t is = counted t s (found_passes (holds s) (map (λ p. p.nid_engine) line.trains) t is)

  nobody : (s : ℕ) → holder line w s ≡ None → (t : ℕ) → is_in_hand line (flow_of w) s t ≡ false
  nobody s none t = by_hand (is_in_hand line (flow_of w) s t) refl
    where
      by_held : (o : Option Held) → held line w t ≡ o → has (λ (h : Held). within h.hand s) o ≡ true → ⊥
      by_held None is inside = cc
      by_held (Some h) is inside = known_there line t (seat_known line w sound t h (first_seat line w sound t h is))
          (λ i p at same. both_ways (holds s t) (ap (holds s) (sym same) ∙ none_found (holds s) line.trains none i p at)
          (ap (has (λ (x : Held). within x.hand s)) is ∙ inside))

      by_hand : (b : Bool) → is_in_hand line (flow_of w) s t ≡ b → is_in_hand line (flow_of w) s t ≡ false
      by_hand false is = is
      by_hand true is = absurd (by_held (held line w t) refl (found t s is))

  unheld : (e : Entry) (g : ℕ → Bool) → ((t : ℕ) → g t ≡ false) → shown e g ≡ mark_of None e
  unheld centre.Shut g none = refl
  unheld centre.Open g none = refl
  unheld (centre.Taken t) g none = cond-false (g t) (line_centre.Given t) (line_centre.Kept t) (none t)
  unheld (centre.Out t) g none = cond-false (g t) (line_centre.Given t) (line_centre.Kept t) (none t)

  mark_is : (s c : ℕ) → is_home line c s ≡ true → v.mark s ≡ mark_of (holder line w s) ((w.at c).book s)
  mark_is s c home = sees.mark s c home ∙ by_holder (holder line w s) refl
    where
      by_holder : (o : Option ℕ) → holder line w s ≡ o → shown ((w.at c).book s) (is_in_hand line (flow_of w) s)
          ≡ mark_of (holder line w s) ((w.at c).book s)
      by_holder None is = rw is (unheld ((w.at c).book s) (is_in_hand line (flow_of w) s) (nobody s is))
      by_holder (Some t) is =
          let in_hand = holder_counted s t is in
          rw is (given_shown ((w.at c).book s) (is_in_hand line (flow_of w) s) t
          (used_there t s c home in_hand) in_hand)

  -- a train's hand is all that is given to it
  hand_is : (t : ℕ) (h : Held) → held line w t ≡ Some h → (s : ℕ) → is_given_to t (v.mark s) ≡ within h.hand s
  hand_is t h is s = same_tests _ _
      (λ given. by_section (section line s) refl (given_mark t (v.mark s) given))
      (λ inside.
      let in_hand = counted t s (held_so ∙ inside) in
      let used = used_in_hand line (flow_of w) sound t s in_hand in
      ap (is_given_to t) (sees.mark s used.0 used.1
      ∙ given_shown ((w.at used.0).book s) (is_in_hand line (flow_of w) s) t used.2 in_hand) ∙ itself t)
    where
      held_so : is_given line w t s ≡ within h.hand s
      held_so = ap (has (λ (x : Held). within x.hand s)) is

      by_section : (o : Option Section) → section line s ≡ o → v.mark s ≡ line_centre.Given t → within h.hand s ≡ true
      by_section None none given =
          absurd (let wrong : line_centre.Shut ≡ line_centre.Given t = sym (sees.no_section s none) ∙ given in cc)
      by_section (Some p) at given =
          let home : is_home line p.home s ≡ true = ap (has (λ q. q.home == p.home)) at ∙ itself p.home in
          sym held_so
          ∙ found t s (only_given_shown ((w.at p.home).book s) (is_in_hand line (flow_of w) s) t
          (sym (sees.mark s p.home home) ∙ given))

  pub stands : StandsFor line w v
  stands = record {
    phase = sees.phase;
    heard = sees.heard;
    said = sees.said;
    wait = sees.wait;
    wish = sees.wish;
    mark = mark_is;
    in_use = λ s c t home is. used_there t s c home (holder_counted s t is);
    mission = mission_is;
    none_else = λ t c. sound.no_mission c t;
    one_seat = one_seat line w sound;
    hands = λ t h is. record { each = hand_is t h is };
  }

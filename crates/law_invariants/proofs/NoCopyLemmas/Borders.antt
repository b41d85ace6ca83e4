-- Hands that are extended, and the acts at a border.
use Rattle.std.proofs.Common.{⊎_elim, ◌&&◌, ◌+◌, ◌-◌, ◌<◌, ◌||◌, ◌∙◌, ◌≡◌, ◌≤◌, ap, arith, Bool, false, if◌then◌else◌}
use Rattle.std.proofs.Common.{inl, inr, is_none, min, nat_le, nat_lt, None, not, Option, refl, Some, subst, sym, true}
use Rattle.std.proofs.Common.{ℕ}
use Rattle.std.proofs.lemmas.Bool.{and_from, and_parts, cases_lt, eqb-true, le-leb, leb-true}
use Rattle.std.specs.Option.{option_map_or}
use Rattle.law_invariants.proofs.NoCopyLemmas.Leaving.{Makes, sends_plain}
use Rattle.law_invariants.proofs.NoCopyLemmas.Parts.{covered_parts, Follows, from_part, joined_back, joined_part}
use Rattle.law_invariants.proofs.NoCopyLemmas.Parts.{open_unused}
use Rattle.law_invariants.proofs.NoCopyLemmas.Starts.{booked_back, booked_open}
use Rattle.law_invariants.proofs.NoCopyLemmas.Tally.{eased, fair_booked, fair_both, fair_change, fair_if, fair_or}
use Rattle.law_invariants.proofs.NoCopyLemmas.Tally.{fair_plain, fair_rest, fair_say, fair_set, fair_then, IsTally}
use Rattle.law_invariants.proofs.NoCopyLemmas.Tally.{mission_back, mission_of, mission_put, part, Tally, whole}
use Rattle.rbc_spec.proofs.Runs.{longest_is, within_from, within_part_from, within_true}
use Rattle.rbc_spec.specs.Acts.{◌>>◌, announce, ask_route, become, booked, change_mission, may_propose, part_at}
use Rattle.rbc_spec.specs.Acts.{propose, propose_if_so, rest, say, send, set_mission}
use Rattle.rbc_spec.specs.Centre.{Centre, Entry, is_free, is_open, Mission, Taken}
use Rattle.rbc_spec.specs.Frame.{Announce, RouteAsk}
use Rattle.rbc_spec.specs.Line.{end, is_home, Line, next_centre, start}
use Rattle.rbc_spec.specs.Maps.{put}
use Rattle.rbc_spec.specs.Message as message
use Rattle.rbc_spec.specs.Message.{Authority, ShorteningRequest, Transition}
use Rattle.rbc_spec.specs.Place.{group_start, has_room, Place, place_on, Position}
use Rattle.rbc_spec.specs.Rules.{announce_if_due, ask_route_if_due, at_border, authority, extended_by, extension, grant}
use Rattle.rbc_spec.specs.Rules.{may_follow, request}
use Rattle.rbc_spec.specs.SectionRuns.{is_empty, most_in_hand, next_after, part_from, SectionRun, within}
use Rattle.rbc_spec.specs.Sections.{is_on, nid_rbc}

module _ (line : Line) (c : ℕ) (y : Tally) (is : IsTally line c y) where
  -- ## Proposals

  pub fair_propose : (t s : ℕ) (m : Mission) (k : Centre) → Makes line c y is k (propose line t s m k)
  fair_propose t s m k =
      fair_both line c y (say t m.place.group (ShorteningRequest (start line s - group_start line m.place)))
      (change_mission t (λ n. record n { proposal = Some (record { stamp = k.said t + 1; last_kept = s - 1 }) })) k
      (fair_say line c y t m.place.group (ShorteningRequest (start line s - group_start line m.place)) k)
      (fair_change line c y t (λ n. record n { proposal = Some (record { stamp = k.said t + 1; last_kept = s - 1 }) })
      _ (λ n. (refl, refl)))

  pub fair_propose_if : (t s : ℕ) (k : Centre) → Makes line c y is k (propose_if_so line t s k)
  fair_propose_if t s k = fair_or line c y (k.mission t) _ k (rest k)
      (λ m has. fair_if line c y (may_propose line t s m k) k (propose line t s m k) (rest k)
      (λ so. fair_propose t s m k) (λ so. fair_rest line c y k)) (λ none. fair_rest line c y k)

  -- ## At a border

  fair_announce : (t group d : ℕ) (m : Mission) (k : Centre) → Makes line c y is k (announce line t group d m k)
  fair_announce t group d m k =
      fair_both line c y ((send d (Announce number t m.place.track) >> become (λ j. record j { announced = number }))
      >> change_mission t stands) (say t group tells) k
      (fair_both line c y (send d (Announce number t m.place.track) >> become (λ j. record j { announced = number }))
      (change_mission t stands) k
      (fair_both line c y (send d (Announce number t m.place.track)) (become (λ j. record j { announced = number })) k
      (sends_plain line c y is d (Announce number t m.place.track) k refl) (fair_plain line c y _ _ refl refl refl))
      (fair_change line c y t stands _ (λ n. (refl, refl))))
      (fair_say line c y t group tells _)
    where
      number : ℕ
      number = k.announced + 1

      stands : Mission → Mission
      stands n = record n { handing = Some (record { number = number; to = d }) }

      tells : message.TrackBody
      tells = Transition (start line (part_at line d m.place.track m.hand).first - group_start line m.place)
          line.nid_c (nid_rbc line d)

  pub fair_announce_if : (t d : ℕ) (k : Centre) → Makes line c y is k (announce_if_due line t d k)
  fair_announce_if t d k = fair_or line c y (k.mission t) _ k (rest k)
      (λ m has. fair_if line c y (is_none m.handing && not (is_empty (part_at line d m.place.track m.hand))) k
      (announce line t m.place.group d m k) (rest k)
      (λ so. fair_announce t m.place.group d m k) (λ so. fair_rest line c y k)) (λ none. fair_rest line c y k)

  fair_ask : (t d : ℕ) (m : Mission) (k : Centre) → Makes line c y is k (ask_route t d m k)
  fair_ask t d m k =
      fair_both line c y
      (send d (RouteAsk t (next_after m.hand) (min (most_in_hand - m.hand.count) (512 - next_after m.hand))))
      (become (λ j. record j { route_ask = put j.route_ask t (Some (next_after m.hand)) })) k
      (sends_plain line c y is d
      (RouteAsk t (next_after m.hand) (min (most_in_hand - m.hand.count) (512 - next_after m.hand))) k refl)
      (fair_plain line c y _ _ refl refl refl)

  pub fair_ask_if : (t d : ℕ) (k : Centre) → Makes line c y is k (ask_route_if_due line t d k)
  fair_ask_if t d k = fair_or line c y (k.mission t) _ k (rest k)
      (λ m has. fair_if line c y (((is_home line d (next_after m.hand) && is_on line m.place.track (next_after m.hand))
      && nat_lt m.hand.count most_in_hand) && (is_empty m.pool && is_none (k.route_ask t))) k
      (ask_route t d m k) (rest k) (λ so. fair_ask t d m k) (λ so. fair_rest line c y k)) (λ none. fair_rest line c y k)

  pub fair_border : (t d : ℕ) (k : Centre) → Makes line c y is k (at_border line c t d k)
  fair_border t d k = fair_both line c y (announce_if_due line t d) (ask_route_if_due line t d) k
      (fair_announce_if t d k) (fair_ask_if t d _)

  -- ## A longer hand

  module _ (t : ℕ) (m : Mission) (k : Centre) where
    abbrev r : SectionRun
    r = extension line c k m

    abbrev e : Entry
    e = k.book y.section

    abbrev pool_left : SectionRun
    pool_left = (extended_by r m).pool

    pool_less : (b : Bool) → part y (if b then m.pool else part_from (next_after r) m.pool) ≤ part y m.pool
    pool_less true = omega arith
    pool_less false = from_part y (next_after r) m.pool

    -- a section that was added to the hand has left the pool
    pool_left_none : within r y.section ≡ true → within m.pool y.section ≡ true → part y pool_left ≡ 0
    pool_left_none in_hand in_pool = by_empty (is_empty m.pool) refl
      where
        not_left : (b : Bool) → within (part_from (next_after r) m.pool) y.section ≡ b → (if b then y.weight else 0) ≡ 0
        not_left false left = refl
        not_left true left =
            absurd (let low = leb-true (next_after r) y.section
            (and_parts (within m.pool y.section) (nat_le (next_after r) y.section)
            (sym (within_part_from m.pool (next_after r) y.section) ∙ left)).1 in
            let ends = within_true r y.section in_hand in omega (arith, low, ends.1))

        by_empty : (b : Bool) → is_empty m.pool ≡ b → part y (if b then m.pool else part_from (next_after r) m.pool) ≡ 0
        by_empty false some = not_left (within (part_from (next_after r) m.pool) y.section) refl
        by_empty true none = absurd (let ends = within_true m.pool y.section in_pool in
            let nothing : m.pool.count ≡ 0 = eqb-true m.pool.count 0 none in omega (arith, ends.0, ends.1, nothing))

    follows : within r y.section ≡ true → (is_free line c k y.section || within m.pool y.section) ≡ true
    follows in_hand =
        let may = (longest_is (may_follow line c k m) (next_after m.hand) (most_in_hand - m.hand.count)).each
        y.section in_hand in
        (and_parts (is_on line m.place.track y.section) (is_free line c k y.section || within m.pool y.section)
        (and_parts (is_on line m.place.track y.section && (is_free line c k y.section || within m.pool y.section))
        (has_room line m.place (end line y.section)) may).0).1

    extended : t ≡ y.train → y.entry e + (part y r + part y pool_left)
        ≤ y.entry (if within r y.section && is_open e then Taken t else e) + part y m.pool
    extended here = by_tests (within r y.section) refl (is_home line c y.section) refl (is_open e) refl
        (within m.pool y.section) refl
      where
        by_tests : (w : Bool) → within r y.section ≡ w → (h : Bool) → is_home line c y.section ≡ h → (o : Bool)
            → is_open (k.book y.section) ≡ o → (p : Bool) → within m.pool y.section ≡ p
            → y.entry (k.book y.section) + ((if w then y.weight else 0) + part y pool_left)
            ≤ y.entry (if w && o then Taken t else k.book y.section) + (if p then y.weight else 0)
        by_tests false out h home o opened p in_pool =
            omega (arith, pool_less (is_empty m.pool), ap (λ z. if z then y.weight else 0) in_pool)
        by_tests true in_hand true home true opened p in_pool = omega (
          arith,
          pool_less (is_empty m.pool),
          ap (λ z. if z then y.weight else 0) in_pool,
          subst (λ v. y.entry (k.book y.section) + y.weight ≤ y.entry (Taken v)) (sym here)
              (is.opens (k.book y.section) home opened).0,
        )
        by_tests true in_hand h home o opened true in_pool =
            omega (arith, pool_left_none in_hand in_pool, less o opened)
          where
            less : (b : Bool) → is_open (k.book y.section) ≡ b
                → y.entry (k.book y.section) ≤ y.entry (if b then Taken t else k.book y.section)
            less true is_so = is.unused (k.book y.section) (Taken t) (open_unused (k.book y.section) is_so)
            less false is_so = omega arith
        by_tests true in_hand true home false opened false in_pool =
            absurd (let wrong : false
            ≡ true = sym (ap (λ z. (z && is_open (k.book y.section)) || within m.pool y.section) home
            ∙ ap (λ z. z || within m.pool y.section) opened ∙ in_pool) ∙ follows in_hand in cc)
        by_tests true in_hand false home o opened false in_pool =
            absurd (let wrong : false
            ≡ true = sym (ap (λ z. (z && is_open (k.book y.section)) || within m.pool y.section) home ∙ in_pool)
            ∙ follows in_hand in cc)

    -- a section of the pool is in the hand's extension, or stays in the pool
    pool_back : Follows m → part y m.pool ≤ part y r + part y pool_left
    pool_back after_hand = by_empty (is_empty m.pool) refl
      where
        by_empty : (b : Bool) → is_empty m.pool ≡ b
            → part y m.pool ≤ part y r + part y (if b then m.pool else part_from (next_after r) m.pool)
        by_empty true none = omega arith
        by_empty false some = covered_parts y r (part_from (next_after r) m.pool) m.pool (λ in_pool. ⊎_elim
            (λ (low : y.section < next_after r).
            inl (within_from r y.section (omega (arith, (within_true m.pool y.section in_pool).0, after_hand some))
            low))
            (λ (high : next_after r ≤ y.section). inr (within_part_from m.pool (next_after r) y.section
            ∙ and_from (within m.pool y.section) (nat_le (next_after r) y.section) in_pool
            (le-leb (next_after r) y.section high)))
            (cases_lt y.section (next_after r)))

    granted_back : y.exact ≡ true → Follows m → mission_of y (k.mission t) ≡ whole y m.hand m.pool
        → y.entry (if within r y.section && is_open e then Taken t else e) + mission_of y (k.mission y.train)
        ≤ y.entry e + mission_of y (put k.mission t (Some (extended_by r m)) y.train)
    granted_back so after_hand has = mission_back line c y k t (Some (extended_by r m)) (y.entry e)
        (y.entry (if within r y.section && is_open e then Taken t else e))
        (λ here. omega (
          arith,
          has,
          pool_back after_hand,
          booked_back line c y is so (Taken t) r e refl,
          joined_back y m.hand r (λ some more. refl),
        )) (λ other. booked_back line c y is so (Taken t) r e refl)

    granted_law : mission_of y (k.mission t) ≡ whole y m.hand m.pool
        → y.entry e + mission_of y (put k.mission t (Some (extended_by r m)) y.train)
        ≤ y.entry (if within r y.section && is_open e then Taken t else e) + mission_of y (k.mission y.train)
    granted_law has = mission_put line c y k t (Some (extended_by r m)) (y.entry e)
        (y.entry (if within r y.section && is_open e then Taken t else e))
        (λ here. omega (arith, has, extended here, joined_part y m.hand r (λ some more. refl)))
        (λ other. booked_open line c y is (Taken t) r e)

  -- the hand is extended, and the authority for it is sent
  pub fair_extend : (t : ℕ) (m : Mission) (k : Centre) → mission_of y (k.mission t) ≡ whole y m.hand m.pool → Follows m
      → let more : SectionRun = extension line c k m in
      Makes line c y is k (((booked is_open (Taken t) more >> set_mission t (Some (extended_by more m)))
      >> say t m.place.group (Authority (authority line (extended_by more m)))) k)
  unfolding ◌>>◌
  fair_extend t m k has after_hand = let more : SectionRun = extension line c k m in
      eased line c y 0 0 k _ (omega (arith, granted_law t m k has))
      (λ so. omega (arith, granted_back t m k so after_hand has))
      (fair_then line c y (booked is_open (Taken t) more >> set_mission t (Some (extended_by more m)))
      (say t m.place.group (Authority (authority line (extended_by more m)))) k
      (fair_then line c y (booked is_open (Taken t) more) (set_mission t (Some (extended_by more m))) k
      (fair_booked line c y is_open (Taken t) more k) (fair_set line c y t (Some (extended_by more m)) _))
      (fair_say line c y t m.place.group (Authority (authority line (extended_by more m))) _))

  pub fair_grant : (t : ℕ) (m : Mission) (k : Centre) → mission_of y (k.mission t) ≡ whole y m.hand m.pool → Follows m
      → Makes line c y is k (grant line c t m k)
  unfolding ◌>>◌
  fair_grant t m k has after_hand =
      fair_both line c y ((booked is_open (Taken t) more >> set_mission t (Some (extended_by more m)))
      >> say t m.place.group (Authority (authority line (extended_by more m))))
      (option_map_or (at_border line c t) (next_centre line c m.place.track) rest) k (fair_extend t m k has after_hand)
      (borders (next_centre line c m.place.track) _)
    where
      more : SectionRun
      more = extension line c k m

      borders : (o : Option ℕ) (j : Centre) → Makes line c y is j (option_map_or (at_border line c t) o rest j)
      borders None j = fair_rest line c y j
      borders (Some d) j = fair_border t d j

  pub fair_request : (t : ℕ) (position : Position) (k : Centre) → ((m : Mission) → k.mission t ≡ Some m → Follows m)
      → Makes line c y is k (request line c t position k)
  fair_request t position k all = fair_or line c y (k.mission t) _ k (rest k)
      (λ m has. at_place m has (place_on line m.place.track position)) (λ none. fair_rest line c y k)
    where
      at_place : (m : Mission) → k.mission t ≡ Some m → (o : Option Place)
          → Makes line c y is k (option_map_or (λ place. grant line c t (record m { place = place })) o rest k)
      at_place m has None = fair_rest line c y k
      at_place m has (Some place) = fair_grant t (record m { place = place }) k (ap (mission_of y) has) (all m has)

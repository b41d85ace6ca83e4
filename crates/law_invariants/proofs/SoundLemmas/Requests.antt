-- A sound centre stays sound after requests for movement authority, also if a hand reaches a border.
use Rattle.std.proofs.Common.{[], ⊎_elim, ◌&&◌, ◌+◌, ◌-◌, ◌<◌, ◌==◌, ◌||◌, ◌∙◌, ◌∷◌, ◌≡◌, ◌≢◌, ◌≤◌, ◌⊎◌, All, ap, arith}
use Rattle.std.proofs.Common.{Bool, eq-eqb, false, if◌then◌else◌, inl, inr, is_none, is_some, length, List, lt-ltb}
use Rattle.std.proofs.Common.{nat_lt, None, not, Option, option_map, refl, slice_get, Some, subst, suc, sym, true, zero}
use Rattle.std.proofs.Common.{ℕ}
use Rattle.std.proofs.lemmas.Bool.{and_parts, both_ways, cases_eq, eqb-true, false_from_ne_true, not-true, or_cases}
use Rattle.std.proofs.lemmas.List.Elements.{All-head, All-tail}
use Rattle.std.proofs.lemmas.Option.{same_Some}
use Rattle.std.specs.Option.{option_map_or}
use Rattle.law_base.proofs.LocalLemmas.Worlds.{is_ordered}
use Rattle.law_base.proofs.RulesLemmas.Places.{placed_on}
use Rattle.law_base.specs.Counting.Sums.{one_if}
use Rattle.law_base.specs.Local.Local.{hand_has}
use Rattle.law_invariants.proofs.FlowLemmas.Neighbours.{neighbours, next_apart}
use Rattle.law_invariants.proofs.FlowLemmas.Taken.{in_both}
use Rattle.law_invariants.proofs.SoundLemmas.Again.{again, free_sound, grown_law, said_sound, same_hand}
use Rattle.law_invariants.proofs.SoundLemmas.Held.{held, held_aside, held_booked, held_mission, IsReported, reported}
use Rattle.law_invariants.proofs.SoundLemmas.Leaving.{held_changed, next_is_centre}
use Rattle.law_invariants.proofs.SoundLemmas.Sends.{Held, if_reply, leaves, none_sent, one_sent, or_reply, or_sound}
use Rattle.law_invariants.proofs.SoundLemmas.Sends.{rest_sound, Sound, then_sent, then_sound}
use Rattle.law_invariants.specs.Flow.Counts.{wait_has}
use Rattle.law_invariants.specs.Flow.Sound.{HasComeTo, IsCentreSound, IsHandAt, IsMissionAt, IsOfNext}
use Rattle.rbc_spec.proofs.Lists.{none_is, one_home, put_here, put_other}
use Rattle.rbc_spec.proofs.Places.{section_on}
use Rattle.rbc_spec.proofs.Runs.{joined_is, longest_each, longest_few, within_from, within_joined, within_true}
use Rattle.rbc_spec.specs.Acts.{◌>>◌, Act, announce, ask_route, booked, change_mission, part_at, rest, say, set_mission}
use Rattle.rbc_spec.specs.Centre.{Centre, Entry, Handing, is_free, is_open, is_taken_for, Mission, Open, Out, Shut}
use Rattle.rbc_spec.specs.Centre.{Taken}
use Rattle.rbc_spec.specs.Line.{is_centre, is_home, IsLine, Line, next_centre, Section, section}
use Rattle.rbc_spec.specs.Message.{Authority}
use Rattle.rbc_spec.specs.Place.{Place, place_on, Position}
use Rattle.rbc_spec.specs.Rules.{announce_if_due, ask_route_if_due, at_border, authority, extended_by, extension, grant}
use Rattle.rbc_spec.specs.Rules.{may_follow, request}
use Rattle.rbc_spec.specs.SectionRuns.{is_empty, joined, most_in_hand, next_after, part_from, SectionRun, within}
use Rattle.rbc_spec.specs.Sections.{home_run, is_on}

-- an open section is taken for none
pub open_untaken : (t : ℕ) (k : Centre) (s : ℕ) → is_open (k.book s) ≡ true → is_taken_for t (k.book s) ≡ false
open_untaken t k s = by_entry (k.book s)
  where
    by_entry : (e : Entry) → is_open e ≡ true → is_taken_for t e ≡ false
    by_entry Shut is = cc
    by_entry Open is = refl
    by_entry (Taken u) is = cc
    by_entry (Out u) is = cc

-- a section of the line is of one of its tracks
track_of_section : (line : Line) → IsLine line → (s : ℕ) (p : Section) → section line s ≡ Some p
    → nat_lt p.track (length line.tracks) ≡ true
track_of_section line ok s p at = each line.sections s ok.ranges.sections at
  where
    InRange : Section → Type 0
    InRange q = (q.track < length line.tracks) × (100 ≤ q.metres) × (q.metres ≤ 2000)
        × (q.home < length line.centres) × (q.balise ≤ 16382)

    each : (xs : List Section) (i : ℕ) → All InRange xs → slice_get xs i ≡ Some p
        → nat_lt p.track (length line.tracks) ≡ true
    each [] i all at = cc
    each (x ∷ xs) zero all at = let same : x ≡ p = cc in
        lt-ltb p.track (length line.tracks) (subst InRange same (All-head InRange x xs all)).0
    each (x ∷ xs) (suc i) all at = each xs i (All-tail InRange x xs all) at

-- a section is on one track
one_track : (line : Line) (a b s : ℕ) → is_on line a s ≡ true → is_on line b s ≡ true → a ≡ b
one_track line a b s one two = by_section (section line s) one two
  where
    by_section : (o : Option Section) → option_map_or (λ p. p.track == a) o false ≡ true
        → option_map_or (λ p. p.track == b) o false ≡ true → a ≡ b
    by_section None x y = cc
    by_section (Some p) x y = sym (eqb-true p.track a x) ∙ eqb-true p.track b y

-- a section of the track whose home is the next centre is of the next centre (`IsOfNext`)
pub all_next : (line : Line) (c d track s : ℕ) → is_on line track s ≡ true → next_centre line c track ≡ Some d
    → is_home line d s ≡ true → IsOfNext line c s
all_next line c d track s on next home = record {
  home = λ other e there ahead. subst (λ x. is_home line x s ≡ true)
      (same_Some d e (sym next ∙ ap (next_centre line c) (one_track line track other s on there) ∙ ahead)) home;
}

module _ (line : Line) (ok : IsLine line) (c : ℕ) where
  -- ## At a border

  -- the track of a hand is one of the line
  track_below : (place : Place) (hand : SectionRun) → IsHandAt line place hand
      → nat_lt place.track (length line.tracks) ≡ true
  track_below place hand is =
      let p = section_on line place.track hand.first
      (is.on_track hand.first (within_from hand hand.first (omega arith) (omega (arith, is.some)))) in
      ap (λ x. nat_lt x (length line.tracks)) (sym p.1.on) ∙ track_of_section line ok hand.first p.0 p.1.at

  -- a part of the hand at centre d has a section of it
  pub part_some : (d track : ℕ) (hand : SectionRun) → is_empty (part_at line d track hand) ≡ false
      → (e : ℕ) × (within hand e ≡ true) × (is_home line d e ≡ true)
  part_some d track hand some =
      let part : SectionRun = part_at line d track hand in
      let both = in_both hand (home_run line d track) part.first
      (within_from part part.first (omega arith) (omega (arith, some_counted part.count some))) in (
        part.first,
        both.0,
        (and_parts (is_home line d part.first) (is_on line track part.first)
            (sym ((is_ordered line ok).homes_run d track part.first) ∙ both.1)).0,
      )
    where
      some_counted : (n : ℕ) → (n == 0) ≡ false → 1 ≤ n
      some_counted zero is = cc
      some_counted (suc n) is = omega arith

  pub announce_sound : (t group d : ℕ) (m : Mission) (k : Centre) → IsCentreSound line c k → k.mission t ≡ Some m
      → m.handing ≡ None → next_centre line c m.place.track ≡ Some d
      → is_empty (part_at line d m.place.track m.hand) ≡ false → Sound line c (announce line t group d m k)
  unfolding ◌>>◌
  announce_sound t group d m k old at none next some =
      let is = old.mission t m at in
      let f : Mission → Mission = λ n. record n { handing = Some (record { number = k.announced + 1; to = d }) } in
      let mine : ℕ → Bool = λ s. is_taken_for t (k.book s) in
      let j : Centre = record k { announced = k.announced + 1 } in
      let one = held_aside line c k t mine (k.wait t) (Some m) k (held line c k t (k.wait t) (Some m) old refl at) j
      refl refl refl refl (λ u has. has) (omega arith) old.asks in
      let two = held_changed line c k t mine (k.wait t) (Some m) j one f in
      let y : Centre = (announce line t group d m k).state in
      let three = held_aside line c k t mine (k.wait t) (Some (f m)) (change_mission t f j).state two y refl refl refl
      refl (λ u has. has) (omega arith) old.asks in
      leaves line c (same_hand line c k old t m (f m) y at three refl (record {
        hand = is.hand;
        pool_follows = is.pool_follows;
        pool_away = is.pool_away;
        pool_on = is.pool_on;
        pool_next = is.pool_next;
        handing_to = λ h handed. next ∙ ap (λ (x : Handing). Some x.to) (same_Some _ h handed);
        handing_number = λ h handed. let number : k.announced + 1 ≡ h.number =
            ap (λ (x : Handing). x.number) (same_Some _ h handed) in (omega (arith, number), omega (arith, number));
        hand_ends = λ s e n to_e beyond come has. is.hand_ends s e n to_e beyond
            (inr (subst (λ x. (i : ℕ) × (within m.hand i ≡ true) × (is_home line x i ≡ true))
            (same_Some d e (sym next ∙ to_e)) (part_some d m.place.track m.hand some))) has;
      }))
      (then_sent line c _ (λ e. []) (then_sent line c _ (λ e. []) (then_sent line c _ (λ e. [])
      (one_sent line c d _ k (next_is_centre line ok c d m.place.track next)
      ((old.mission_known t m at).0, track_below m.place m.hand is.hand))
      (none_sent line c)) (none_sent line c)) (none_sent line c))

  pub ask_sound : (t d : ℕ) (m : Mission) (k : Centre) → IsCentreSound line c k → is_centre line d ≡ true
      → IsOfNext line c (next_after m.hand) → Sound line c (ask_route t d m k)
  unfolding ◌>>◌
  ask_sound t d m k old to of_next =
      leaves line c (free_sound line c k old (ask_route t d m k).state refl refl refl refl (λ u is. is) (omega arith)
      (λ u first asks. ⊎_elim
      (λ (here : u ≡ t). subst (IsOfNext line c)
      (same_Some (next_after m.hand) first (sym (put_here k.route_ask t u (Some (next_after m.hand)) here) ∙ asks))
      of_next)
      (λ (other : u ≢ t). old.asks u first (sym (put_other k.route_ask t u (Some (next_after m.hand)) other) ∙ asks))
      (cases_eq u t)))
      (then_sent line c _ (λ e. []) (one_sent line c d _ k to (record {})) (none_sent line c))

  -- the announcement of a handover keeps the mission on its track
  pub place_stays : (t d : ℕ) (k : Centre) (n : Mission) → (announce_if_due line t d k).state.mission t ≡ Some n
      → (m : Mission) × (k.mission t ≡ Some m) × (m.place.track ≡ n.place.track)
  unfolding ◌>>◌
  place_stays t d k n = by_mission (k.mission t) refl
    where
      f : ℕ → Mission → Mission
      f number m = record m { handing = Some (record { number = number; to = d }) }

      by_due : (m : Mission) (b : Bool) → k.mission t ≡ Some m
          → (if b then announce line t m.place.group d m k else rest k).state.mission t ≡ Some n
          → (x : Mission) × (k.mission t ≡ Some x) × (x.place.track ≡ n.place.track)
      by_due m true at is =
          let now : Some (f (k.announced + 1) m) ≡ Some n =
          sym (put_here k.mission t t (option_map (f (k.announced + 1)) (k.mission t)) refl
          ∙ ap (option_map (f (k.announced + 1))) at) ∙ is in
          (m, at, ap (λ (x : Mission). x.place.track) (same_Some (f (k.announced + 1) m) n now))
      by_due m false at is = (n, is, refl)

      by_mission : (o : Option Mission) → k.mission t ≡ o
          → (option_map_or (λ m. if is_none m.handing
          && not (is_empty (part_at line d m.place.track m.hand)) then announce line t m.place.group d m k else rest
          k) o (rest k)).state.mission t ≡ Some n
          → (m : Mission) × (k.mission t ≡ Some m) × (m.place.track ≡ n.place.track)
      by_mission (Some m) at is =
          by_due m (is_none m.handing && not (is_empty (part_at line d m.place.track m.hand))) at is
      by_mission None at is = (n, is, refl)

  pub border_sound : (t d : ℕ) (k : Centre) → IsCentreSound line c k → is_centre line d ≡ true
      → ((m : Mission) → k.mission t ≡ Some m → next_centre line c m.place.track ≡ Some d)
      → Sound line c (at_border line c t d k)
  border_sound t d k old to next = then_sound line c (announce_if_due line t d) (ask_route_if_due line t d) k
      (or_reply line c (k.mission t) _ (rest k)
      (λ m at. if_reply line c (is_none m.handing && not (is_empty (part_at line d m.place.track m.hand)))
      (announce line t m.place.group d m k) (rest k)
      (λ due. announce_sound t m.place.group d m k old at
      (none_is m.handing (and_parts (is_none m.handing) _ due).0) (next m at)
      (not-true (is_empty (part_at line d m.place.track m.hand))
      (and_parts (is_none m.handing) (not (is_empty (part_at line d m.place.track m.hand))) due).1))
      (λ no. rest_sound line c k old))
      (λ none. rest_sound line c k old))
      (λ j is sound. or_reply line c (j.mission t) _ (rest j)
      (λ m at. if_reply line c (may_ask m j) (ask_route t d m j) (rest j)
      (λ due. ask_sound t d m j sound to
      (let was = place_stays t d k m (ap (λ (x : Centre). x.mission t) (sym is) ∙ at) in
      let ends = and_parts (is_home line d (next_after m.hand)) (is_on line m.place.track (next_after m.hand))
      (and_parts (is_home line d (next_after m.hand) && is_on line m.place.track (next_after m.hand))
      (nat_lt m.hand.count most_in_hand)
      (and_parts ((is_home line d (next_after m.hand) && is_on line m.place.track (next_after m.hand))
      && nat_lt m.hand.count most_in_hand) (is_empty m.pool && is_none (j.route_ask t)) due).0).0 in
      all_next line c d m.place.track (next_after m.hand) ends.1 (ap (next_centre line c) (sym was.2)
      ∙ next was.0 was.1) ends.0))
      (λ no. rest_sound line c j sound))
      (λ none. rest_sound line c j sound))
    where
      may_ask : Mission → Centre → Bool
      may_ask m j = ((is_home line d (next_after m.hand) && is_on line m.place.track (next_after m.hand))
          && nat_lt m.hand.count most_in_hand) && (is_empty m.pool && is_none (j.route_ask t))

  -- ## Request

  module _ (k : Centre) (old : IsCentreSound line c k) (t : ℕ) (m : Mission) (place : Place) (at : k.mission t ≡ Some m)
      (same : place.track ≡ m.place.track) (there : IsReported line place) where
    abbrev here : Mission
    here = record m { place = place }

    abbrev more : SectionRun
    more = extension line c k here

    is : IsMissionAt line c k m
    is = old.mission t m at

    follows : (s : ℕ) → within more s ≡ true → may_follow line c k here s ≡ true
    follows s has = let ends = within_true more s has in
        longest_each (may_follow line c k here) (next_after m.hand) (most_in_hand - m.hand.count) s ends.0 ends.1

    follows_on : (s : ℕ) → within more s ≡ true → is_on line place.track s ≡ true
    follows_on s has =
        (and_parts (is_on line place.track s) (is_free line c k s || within m.pool s)
        (and_parts (is_on line place.track s && (is_free line c k s || within m.pool s)) _ (follows s has)).0).0

    -- the home sections of the extension are released
    follows_open : (s : ℕ) → is_home line c s ≡ true → within more s ≡ true → is_open (k.book s) ≡ true
    follows_open s home has =
        let free =
        (and_parts (is_on line place.track s) (is_free line c k s || within m.pool s)
        (and_parts (is_on line place.track s && (is_free line c k s || within m.pool s)) _ (follows s has)).0).1 in
        ⊎_elim
        (λ (released : is_free line c k s ≡ true). (and_parts (is_home line c s) (is_open (k.book s)) released).1)
        (λ (lent : within m.pool s ≡ true). absurd (both_ways (is_home line c s) (is.pool_away s lent) home))
        (or_cases (is_free line c k s) (within m.pool s) free)

    count : (joined m.hand more).count ≡ m.hand.count + more.count
    count = ap (λ (r : SectionRun). r.count) (joined_is m.hand more.count is.hand.some)

    ends : next_after (joined m.hand more) ≡ next_after more
    ends = ap (λ (r : SectionRun). next_after r) (joined_is m.hand more.count is.hand.some) ∙ (omega arith)

    hand_is : IsHandAt line place (joined m.hand more)
    hand_is = record {
      some = omega (arith, count, is.hand.some);
      few = omega (
        arith,
        count,
        is.hand.few,
        longest_few (may_follow line c k here) (next_after m.hand)
            (most_in_hand - m.hand.count),
      );
      on_track = λ s has. ⊎_elim
          (λ (old_one : within m.hand s ≡ true). subst (λ track. is_on line track s ≡ true) (sym same)
          (is.hand.on_track s old_one))
          (λ (new_one : within more s ≡ true). follows_on s new_one)
          (or_cases (within m.hand s) (within more s) (sym (within_joined m.hand more s refl) ∙ has));
      group = there.group;
      front = there.front;
    }

    pool_is : (b : Bool) → is_empty m.pool ≡ b → let p : SectionRun =
        if b then m.pool else part_from (next_after more) m.pool in
        (is_empty p ≡ false → p.first ≡ next_after (joined m.hand more))
        × ((s : ℕ) → within p s ≡ true → is_home line c s ≡ false)
        × ((s : ℕ) → within p s ≡ true → is_on line place.track s ≡ true)
    pool_is true empty = (
      λ some. absurd (both_ways (is_empty m.pool) some empty),
      is.pool_away,
      λ s has. subst (λ track. is_on line track s ≡ true) (sym same) (is.pool_on s has),
    )
    pool_is false some = (
      λ left. omega (arith, ends, is.pool_follows some),
      λ s has. let at_s = within_true (part_from (next_after more) m.pool) s has in
          is.pool_away s (within_from m.pool s (omega (arith, at_s)) (omega (arith, at_s))),
      λ s has. let at_s = within_true (part_from (next_after more) m.pool) s has in
          subst (λ track. is_on line track s ≡ true) (sym same)
          (is.pool_on s (within_from m.pool s (omega (arith, at_s)) (omega (arith, at_s)))),
    )

    -- a section by which the hand is extended is of home, or of the pool
    from_pool : (s : ℕ) → within more s ≡ true → (is_home line c s ≡ true) ⊎ (within m.pool s ≡ true)
    from_pool s has =
        let free =
        (and_parts (is_on line place.track s) (is_free line c k s || within m.pool s)
        (and_parts (is_on line place.track s && (is_free line c k s || within m.pool s)) _ (follows s has)).0).1 in
        ⊎_elim
        (λ (released : is_free line c k s ≡ true). inl (and_parts (is_home line c s) (is_open (k.book s)) released).0)
        (λ (lent : within m.pool s ≡ true). inr lent)
        (or_cases (is_free line c k s) (within m.pool s) free)

    more_pool : (s d : ℕ) (b : Bool) → is_empty m.pool ≡ b → next_centre line c place.track ≡ Some d
        → within (if b then m.pool else part_from (next_after more) m.pool) s ≡ true → is_home line d s ≡ true
    more_pool s d true is_so next has = is.pool_next s d (ap (next_centre line c) (sym same) ∙ next) has
    more_pool s d false is_so next has = let at_s = within_true (part_from (next_after more) m.pool) s has in
        is.pool_next s d (ap (next_centre line c) (sym same) ∙ next)
        (within_from m.pool s (omega (arith, at_s)) (omega (arith, at_s)))

    -- no section of the longer hand is of the centre beyond the next, if the mission has reached the next
    longer_ends : (s d n : ℕ) → next_centre line c place.track ≡ Some d → next_centre line d place.track ≡ Some n
        → HasComeTo line d (extended_by more here)
        → within (joined m.hand more) s ≡ true → is_home line n s ≡ false
    longer_ends s d n next beyond_that come has = false_from_ne_true (is_home line n s) (λ there. ⊎_elim
        (λ (old_one : within m.hand s ≡ true). in_old there old_one)
        (λ (new_one : within more s ≡ true). in_new s there new_one)
        (or_cases (within m.hand s) (within more s) (sym (within_joined m.hand more s refl) ∙ has)))
      where
        next_was : next_centre line c m.place.track ≡ Some d
        next_was = ap (next_centre line c) (sym same) ∙ next

        beyond_was : next_centre line d m.place.track ≡ Some n
        beyond_was = ap (next_centre line d) (sym same) ∙ beyond_that

        -- neither an own section nor one of the pool is of that centre
        in_new : (x : ℕ) → is_home line n x ≡ true → within more x ≡ true → ⊥
        in_new x there new_one = ⊎_elim
            (λ (own : is_home line c x ≡ true).
            let wrong : true ≡ false = sym (eq-eqb n c (sym (one_home line c n x own there)))
            ∙ (ap (has_that c) (sym beyond_that) ∙ (neighbours line ok).onward c d place.track next) in cc)
            (λ (pooled : within m.pool x ≡ true). next_apart line d n place.track beyond_that
            (sym (one_home line d n x (is.pool_next x d next_was pooled) there)))
            (from_pool x new_one)
          where
            has_that : ℕ → Option ℕ → Bool
            has_that i o = option_map_or (λ j. j == i) o false

        in_old : is_home line n s ≡ true → within m.hand s ≡ true → ⊥
        in_old there old_one = ⊎_elim
            (λ (stands : is_some m.handing ≡ true). both_ways (is_home line n s)
            (is.hand_ends s d n next_was beyond_was (inl stands) old_one) there)
            (λ (some : (e : ℕ) × (within (joined m.hand more) e ≡ true) × (is_home line d e ≡ true)). ⊎_elim
            (λ (old_too : within m.hand some.0 ≡ true). both_ways (is_home line n s)
            (is.hand_ends s d n next_was beyond_was (inr (some.0, old_too, some.2)) old_one) there)
            (λ (new_one : within more some.0 ≡ true).
            let first_before = (neighbours line ok).later d n place.track some.0 s beyond_that
            (follows_on some.0 new_one) some.2
            (subst (λ track. is_on line track s ≡ true) (sym same) (is.hand.on_track s old_one)) there in
            let in_more = within_true more some.0 new_one in
            let in_hand = within_true m.hand s old_one in
            let no : ⊥ = omega (arith, first_before, in_more.0, in_hand.1) in no)
            (or_cases (within m.hand some.0) (within more some.0)
            (sym (within_joined m.hand more some.0 refl) ∙ some.1)))
            come

    extended_is : IsMissionAt line c k (extended_by more here)
    extended_is = let pool = pool_is (is_empty m.pool) refl in record {
      hand = hand_is;
      pool_follows = pool.0;
      pool_away = pool.1;
      pool_on = pool.2;
      pool_next = λ s d next has. more_pool s d (is_empty m.pool) refl next has;
      handing_to = λ h handed. ap (next_centre line c) same ∙ is.handing_to h handed;
      handing_number = is.handing_number;
      hand_ends = longer_ends;
    }

    abbrev mine : ℕ → Bool
    mine s = is_taken_for t (k.book s)

    abbrev grown : Centre
    grown = (set_mission t (Some (extended_by more here)) (booked is_open (Taken t) more k).state).state

    grown_held : Held line c k t (λ s. mine s || within more s) (k.wait t) (Some (extended_by more here)) grown
    grown_held = held_mission line c k t (λ s. mine s || within more s) (k.wait t) (Some m)
        (booked is_open (Taken t) more k).state
        (held_booked line c k t mine (k.wait t) (Some m) k (held line c k t (k.wait t) (Some m) old refl at) more
        follows_open) (Some (extended_by more here))

    grown_sound : IsCentreSound line c grown
    grown_sound = again line c k old t (λ s. mine s || within more s) (Some (extended_by more here)) grown grown_held
        (λ s home. omega (
          arith,
          grown_law (within more s) (mine s) (wait_has line (k.wait t) s) (within m.hand s)
              (omega (arith, old.claims s t home, ap (λ (o : Option Mission). one_if (hand_has o s)) at))
              (λ has. open_untaken t k s (follows_open s home has)),
          ap one_if (within_joined m.hand more s refl),
        ))
        (λ n this. (
          subst (IsMissionAt line c k) (same_Some (extended_by more here) n this) extended_is,
          old.mission_known t m at,
        ))

    -- the hand is extended, and the authority for it is sent
    pub extend_sound : Sound line c (((booked is_open (Taken t) more >> set_mission t (Some (extended_by more here)))
        >> say t place.group (Authority (authority line (extended_by more here)))) k)
    unfolding ◌>>◌
    extend_sound = then_sound line c (booked is_open (Taken t) more >> set_mission t (Some (extended_by more here)))
        (say t place.group (Authority (authority line (extended_by more here)))) k
        (leaves line c grown_sound (then_sent line c (λ d. []) (λ d. []) (none_sent line c) (none_sent line c)))
        (λ j this sound. said_sound line c j sound t)

    pub grant_sound : Sound line c (grant line c t here k)
    unfolding ◌>>◌
    grant_sound =
        let says : Act = say t place.group (Authority (authority line (extended_by more here))) in
        let takes : Act = booked is_open (Taken t) more >> set_mission t (Some (extended_by more here)) in
        let border : Act = option_map_or (at_border line c t) (next_centre line c place.track) rest in
        then_sound line c (takes >> says) border k extend_sound
        (λ j this sound. or_sound line c (next_centre line c place.track) (at_border line c t) rest j
        (λ d next. border_sound t d j sound (next_is_centre line ok c d place.track next)
        (λ n now. let n_is : extended_by more here ≡ n = same_Some _ n (sym grown_held.mission
        ∙ sym (ap (λ (x : Centre). x.mission t) this) ∙ now) in
        ap (λ (x : Mission). next_centre line c x.place.track) (sym n_is) ∙ next))
        (λ none. rest_sound line c j sound))

  pub request_sound : (t : ℕ) (position : Position) (k : Centre) → IsCentreSound line c k
      → Sound line c (request line c t position k)
  request_sound t position k old = or_reply line c (k.mission t) _ (rest k)
      (λ m at. or_sound line c (place_on line m.place.track position)
      (λ place. grant line c t (record m { place = place })) rest k
      (λ place on. let there = placed_on line m.place.track position place on in
      grant_sound k old t m place at there.track_is (reported line position place there.extent_is))
      (λ none. rest_sound line c k old))
      (λ none. rest_sound line c k old)

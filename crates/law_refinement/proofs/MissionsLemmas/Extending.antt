-- A hand that is extended, by open sections of this centre and by those of the pool: the state that is shown.
use Rattle.std.proofs.Common.{[], ⊎_elim, ◌&&◌, ◌+◌, ◌-◌, ◌==◌, ◌||◌, ◌∙◌, ◌≡◌, ◌≢◌, ap, arith, Bool, false}
use Rattle.std.proofs.Common.{if◌then◌else◌, None, Option, option_map, refl, Some, subst, sym, true, ℕ}
use Rattle.std.proofs.lemmas.Bool.{and_parts, both_ways, cases_eq, or_cases}
use Rattle.law_base.proofs.CountingLemmas.Resource.{carried_none}
use Rattle.law_base.proofs.CountingLemmas.Sums.{one_if_true}
use Rattle.law_base.specs.Counting.Network.{acted}
use Rattle.law_base.specs.Counting.Sums.{one_if}
use Rattle.law_base.specs.Local.Local.{hand_has}
use Rattle.law_invariants.specs.Flow.Counts.{hands, missions, pool_has}
use Rattle.law_invariants.specs.Flow.Flow.{centre_count, Flow}
use Rattle.law_invariants.specs.Flow.Keeping.{nothing_came}
use Rattle.law_invariants.specs.Flow.Shows.{Shows}
use Rattle.law_invariants.specs.Flow.Sound.{IsFlowSound, IsMissionAt}
use Rattle.law_refinement.proofs.AbstractionLemmas.Hands.{mark_stays, sends_none}
use Rattle.law_refinement.proofs.AbstractionLemmas.Missions.{supervised}
use Rattle.law_refinement.proofs.AbstractionLemmas.Shows.{by_itself, enters_elsewhere, enters_here, part_changes}
use Rattle.law_refinement.proofs.AbstractionLemmas.Shows.{part_stays, shows_after}
use Rattle.law_refinement.specs.Abstraction.Acts.{IsAct}
use Rattle.law_refinement.specs.Abstraction.After.{MarkAfter, MissionAfter}
use Rattle.law_refinement.specs.Abstraction.After.MissionAfter.{is_here, stays}
use Rattle.rbc_spec.proofs.Lists.{itself, put_other, put_there}
use Rattle.rbc_spec.proofs.Runs.{longest_is, within_joined}
use Rattle.rbc_spec.specs.Centre as centre
use Rattle.rbc_spec.specs.Centre.{Centre, is_free, is_open, is_used_for, Mission, Phase}
use Rattle.rbc_spec.specs.Line.{end, is_centre, is_home, Line, section}
use Rattle.rbc_spec.specs.LineCentre as line_centre
use Rattle.rbc_spec.specs.LineCentre.{change_mission, LineMission, LineState, mark_all, says}
use Rattle.rbc_spec.specs.Maps.{has, put}
use Rattle.rbc_spec.specs.Place.{has_room, Place}
use Rattle.rbc_spec.specs.ReadOff.{seen}
use Rattle.rbc_spec.specs.Rules.{extended_by, extension, may_follow}
use Rattle.rbc_spec.specs.SectionRuns.{IsLongest}
use Rattle.rbc_spec.specs.SectionRuns.{most_in_hand, next_after, SectionRun, within}
use Rattle.rbc_spec.specs.Sections.{is_on}

module _ (line : Line) (w : Flow) (sound : IsFlowSound line w) (v : LineState) (sees : Shows line w v) (c t : ℕ)
    (to : is_centre line c ≡ true) (m : Mission) (at : (w.at c).mission t ≡ Some m)
    (place : Place) where
  abbrev pub k : Centre
  k = w.at c

  pub is : IsMissionAt line c k m
  is = (sound.centres c to).mission t m at

  abbrev pub here : Mission
  here = record m { place = place }

  abbrev pub more : SectionRun
  more = extension line c k here

  abbrev pub longer : Mission
  longer = extended_by more here

  pub most : IsLongest (may_follow line c k here) (next_after m.hand) (most_in_hand - m.hand.count) more.count
  most = longest_is (may_follow line c k here) (next_after m.hand) (most_in_hand - m.hand.count)

  -- a section that may extend the hand
  pub record Follows (s : ℕ) : Type 0 where
    pub on_track : is_on line place.track s ≡ true
    pub free : (is_free line c k s || within m.pool s) ≡ true
    pub in_reach : has_room line place (end line s) ≡ true

  pub follows : (s : ℕ) → within more s ≡ true → Follows s
  follows s inside =
      let parts = and_parts (is_on line place.track s && (is_free line c k s || within m.pool s))
      (has_room line place (end line s)) (most.each s inside) in
      let both = and_parts (is_on line place.track s) (is_free line c k s || within m.pool s) parts.0 in
      record { on_track = both.0; free = both.1; in_reach = parts.1 }

  -- one of home c is open, and another is in the pool
  open_here : (s : ℕ) → is_home line c s ≡ true → within more s ≡ true → is_open (k.book s) ≡ true
  open_here s home inside =
      ⊎_elim (λ (free : is_free line c k s ≡ true). (and_parts (is_home line c s) (is_open (k.book s)) free).1)
      (λ (lent : within m.pool s ≡ true). absurd (both_ways (is_home line c s) (is.pool_away s lent) home))
      (or_cases (is_free line c k s) (within m.pool s) (follows s inside).free)

  in_pool : (s : ℕ) → is_home line c s ≡ false → within more s ≡ true → within m.pool s ≡ true
  in_pool s away inside =
      ⊎_elim (λ (free : is_free line c k s ≡ true).
      absurd (both_ways (is_home line c s) away (and_parts (is_home line c s) (is_open (k.book s)) free).0))
      (λ (lent : within m.pool s ≡ true). lent)
      (or_cases (is_free line c k s) (within m.pool s) (follows s inside).free)

  pub token_here : (s : ℕ) → within m.pool s ≡ true → one_if (pool_has (k.mission t) s) ≡ 1
  token_here s lent = one_if_true (pool_has (k.mission t) s) (ap (λ (o : Option Mission). pool_has o s) at ∙ lent)

  -- ## The shown state

  abbrev pub y : Centre
  y = record k {
    book = λ s. if within more s && is_open (k.book s) then centre.Taken t else k.book s;
    mission = put k.mission t (Some longer);
    said = put k.said t (k.said t + 1);
  }

  abbrev new : Flow
  new = acted w c y (λ d. [])

  abbrev pub after : LineState
  after = says t c (change_mission t (λ n. record n { place = place }) (mark_all (within more) (line_centre.Given t) v))

  pub act : IsAct line w c nothing_came y (λ d. []) (acted w c y (λ d. []))
  act = by_itself line w c y (λ d. []) sound.counted to

  hand_is : (s : ℕ) → within longer.hand s ≡ (within m.hand s || within more s)
  hand_is s = within_joined m.hand more s refl

  hand_now : (s : ℕ) → hand_has (y.mission t) s ≡ (within m.hand s || within more s)
  hand_now s = ap (λ (o : Option Mission). hand_has o s) (put_there k.mission t (Some longer)) ∙ hand_is s

  pub or_right : (a b : Bool) → b ≡ true → (a || b) ≡ true
  or_right true b is_so = refl
  or_right false b is_so = is_so

  or_none : (a b : Bool) → b ≡ false → (a || b) ≡ a
  or_none true b is_so = refl
  or_none false b is_so = is_so

  in_hand_now : (s : ℕ) → within more s ≡ true → one_if (hand_has (y.mission t) s) ≡ 1
  in_hand_now s inside = one_if_true (hand_has (y.mission t) s) (hand_now s
      ∙ or_right (within m.hand s) (within more s) inside)

  same_hand : (u s : ℕ) → within more s ≡ false → hand_has (y.mission u) s ≡ hand_has (k.mission u) s
  same_hand u s out = ⊎_elim
      (λ (same : u ≡ t). subst (λ x. hand_has (y.mission x) s ≡ hand_has (k.mission x) s) (sym same)
      (hand_now s ∙ or_none (within m.hand s) (within more s) out ∙ sym (ap (λ (o : Option Mission). hand_has o s) at)))
      (λ (other : u ≢ t). ap (λ (o : Option Mission). hand_has o s) (put_other k.mission t u (Some longer) other))
      (cases_eq u t)

  marks : (s d : ℕ) → is_home line d s ≡ true → (b h : Bool) → within more s ≡ b → is_home line c s ≡ h
      → MarkAfter line w new s d (v.mark s) (if b then line_centre.Given t else v.mark s)
  marks s d home true true inside own = enters_here line w c nothing_came y (λ e. []) new s d act home t (v.mark s) own
      (ap (λ b. is_used_for t (if b && is_open (k.book s) then centre.Taken t else k.book s)) inside
      ∙ ap (λ b. is_used_for t (if b then centre.Taken t else k.book s)) (open_here s own inside) ∙ itself t)
      (omega (arith, in_hand_now s inside))
  marks s d home true false inside away = enters_elsewhere line w c nothing_came y (λ e. []) new s d act
      home t (v.mark s) sound away
      (omega (arith, token_here s (in_pool s away inside))) (omega (arith, in_hand_now s inside))
  marks s d home false h out own = mark_stays line w c nothing_came y (λ e. []) new s d (v.mark s) act
      (ap (λ b. if b && is_open (k.book s) then centre.Taken t else k.book s) out)
      (λ u used.
      omega (
        arith,
        ap one_if (same_hand u s out),
        sends_none (hands u s) (centre_count line) c (λ e. []) (λ e. carried_none (hands u s) c e),
      ))

  no_sections : (s : ℕ) → section line s ≡ None → (b : Bool) → within more s ≡ b
      → (if b then line_centre.Given t else v.mark s) ≡ v.mark s
  no_sections s none true inside = absurd (let wrong : false ≡ true = sym (ap (has (λ p. p.track == place.track)) none)
      ∙ (follows s inside).on_track in cc)
  no_sections s none false out = refl

  placed_so : option_map (λ (n : LineMission). record n { place = place }) (v.mission t) ≡ Some (seen c longer)
  placed_so = ap (option_map (λ (n : LineMission). record n { place = place })) (sees.mission t c m at)

  missions_after : (u : ℕ) → MissionAfter line w c nothing_came y (λ d. []) u (v.mission u) (after.mission u)
  missions_after u = ⊎_elim
      (λ (same : u ≡ t). subst (λ x. MissionAfter line w c nothing_came y (λ d. []) x (v.mission x) (after.mission x))
      (sym same)
      (is_here longer (put_there v.mission t _ ∙ placed_so) (put_there k.mission t (Some longer))
      (supervised line w c nothing_came y (λ d. []) new t sound act m at) (λ d. carried_none (missions t) c d)))
      (λ (other : u ≢ t). stays (put_other v.mission t u _ other)
      (ap (option_map (seen c)) (put_other k.mission t u (Some longer) other)) refl
      (λ d. carried_none (missions u) c d))
      (cases_eq u t)

  pub shown_so : Shows line (acted w c y (λ d. [])) after
  shown_so = shows_after line w c nothing_came y (λ d. []) new v after sound sees to act (record {
    phase = part_stays Phase c v.phase y.phase (λ u. sees.phase u c);
    heard = part_stays (Option ℕ) c v.heard y.heard (λ u. sees.heard u c);
    said = part_changes ℕ c t (v.said t c + 1) v.said k.said y.said (λ u. sees.said u c)
        (λ u. ap (λ x. put k.said t (x + 1) u) (sym (sees.said t c)));
    wait = part_stays (Option Place) c v.wait y.wait (λ u. sees.wait u c);
    wish = λ s home. sees.wish s c home;
    other_wish = λ s away. refl;
    mark = λ s d home. marks s d home (within more s) (is_home line c s) refl refl;
    no_section = λ s none. no_sections s none (within more s) refl;
    mission = missions_after;
  })

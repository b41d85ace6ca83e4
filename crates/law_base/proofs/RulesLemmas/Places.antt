-- The places of reports, and messages that are silent.
use Rattle.std.proofs.Common.{[], ⊎_elim, ◌&&◌, ◌*◌, ◌+◌, ◌-◌, ◌<◌, ◌==◌, ◌||◌, ◌∙◌, ◌≡◌, ◌≢◌, ◌≤◌, ap, arith, Bool}
use Rattle.std.proofs.Common.{eqb-true, false, if◌then◌else◌, is_none, leb-true, nat_le, None, not, Option}
use Rattle.std.proofs.Common.{option_and_then, option_map, refl, slice_get, Some, subst, sym, true, ℕ}
use Rattle.std.proofs.lemmas.Bool.{and_from, and_parts, cases_eq, cond-false, cond-true, eq-eqb, eqb-false, ne_eqb}
use Rattle.std.proofs.lemmas.Bool.{not-false, or_cases}
use Rattle.std.proofs.lemmas.List.{append-nil}
use Rattle.std.proofs.lemmas.Option.{same_Some}
use Rattle.std.specs.Option.{option_map_or}
use Rattle.law_base.specs.Rules.Distances.{extended, IsAhead, IsRequestHeard}
use Rattle.rbc_spec.proofs.Lists.{itself, none_passes}
use Rattle.rbc_spec.proofs.Places.{ends_before, ends_rise, homes_run}
use Rattle.rbc_spec.proofs.Runs.{longest_is, within_from, within_joined, within_shared, within_true}
use Rattle.rbc_spec.specs.Acts.{may_propose, part_at, rest}
use Rattle.rbc_spec.specs.Centre.{Centre, is_free, is_up, Mission}
use Rattle.rbc_spec.specs.Line.{end, is_home, IsLine, Line, Section, section, section_of_group, start}
use Rattle.rbc_spec.specs.Maps.{has}
use Rattle.rbc_spec.specs.Message.{Request, TrainBody, TrainMessage}
use Rattle.rbc_spec.specs.Outcome.{NoPlace, Reason, reasons_of}
use Rattle.rbc_spec.specs.Place.{extent, fit_place, group_start, has_place, is_fit, Place, place_ahead, place_on}
use Rattle.rbc_spec.specs.Place.{Position}
use Rattle.rbc_spec.specs.Rules.{extension, may_follow}
use Rattle.rbc_spec.specs.SectionRuns.{is_empty, joined, next_after, SectionRun, shared, within}
use Rattle.rbc_spec.specs.Sections.{home_run, is_on}
use Rattle.rbc_spec.specs.Step.{Effect, effect, has_no_place, hear_and_answer, holds, may_request, mission_has}
use Rattle.rbc_spec.specs.Step.{outcome_of, silence, stamp_of, state_after, taken, ticked, Train}

-- # The place of a report.

no_less : (a b d x : ℕ) → x ≡ a → 10 * x ≤ 10 * a + b + d
no_less a b d x is = omega arith

place_is_ahead : (line : Line) (s : ℕ) (q : Section) (p : Position) → section_of_group line p.nid_lrbg ≡ Some s
    → IsAhead line (place_ahead line s q p)
place_is_ahead line s q p at =
    no_less (start line s) (p.scale * p.d_lrbg) (p.scale * p.l_doubtunder) (group_start line (place_ahead line s q p))
    (ap (λ o. option_map_or (λ e. start line e) o 0) at)

-- the place of a report is in advance of the start of its group's section
pub record IsPlaceAhead (line : Line) (p : Position) (place : Place) : Type 0 where
  pub s : ℕ
  pub q : Section
  pub known : has_place p ≡ true
  pub group : section_of_group line p.nid_lrbg ≡ Some s
  pub at : section line s ≡ Some q
  pub is : place_ahead line s q p ≡ place

pub ahead_of_group : (line : Line) (p : Position) (place : Place) → extent line p ≡ Some place
    → IsPlaceAhead line p place
unfolding extent
ahead_of_group line p place is = by_place (has_place p) refl is
  where
    by_section : (s : ℕ) (o : Option Section) → has_place p ≡ true → section_of_group line p.nid_lrbg ≡ Some s
        → section line s ≡ o → option_map (λ q. place_ahead line s q p) o ≡ Some place → IsPlaceAhead line p place
    by_section s (Some q) known group at is =
        record { s = s; q = q; known = known; group = group; at = at; is = same_Some (place_ahead line s q p) place is }
    by_section s None known group at is = cc

    by_group : (o : Option ℕ) → has_place p ≡ true → section_of_group line p.nid_lrbg ≡ o
        → option_and_then (λ s. option_map (λ q. place_ahead line s q p) (section line s)) o ≡ Some place
        → IsPlaceAhead line p place
    by_group (Some s) known at is = by_section s (section line s) known at refl is
    by_group None known at is = cc

    by_place : (b : Bool) → has_place p ≡ b
        → (if b then option_and_then (λ s. option_map (λ q. place_ahead line s q p) (section line s))
        (section_of_group line p.nid_lrbg) else None) ≡ Some place → IsPlaceAhead line p place
    by_place true known is = by_group (section_of_group line p.nid_lrbg) known refl is
    by_place false known is = cc

-- the front of a report's place is not before its group
pub extent_ahead : (line : Line) (p : Position) (place : Place) → extent line p ≡ Some place → IsAhead line place
extent_ahead line p place is = let b = ahead_of_group line p place is in
    subst (IsAhead line) b.is (place_is_ahead line b.s b.q p b.group)

-- the group is on the track of the place
pub has_group : (line : Line) (p : Position) (place : Place) → extent line p ≡ Some place
    → has (is_on line place.track) (section_of_group line place.group) ≡ true
has_group line p place is =
    let b = ahead_of_group line p place is in
    let on : is_on line b.q.track b.s ≡ true =
    ap (λ (o : Option Section). option_map_or (λ x. x.track == b.q.track) o false) b.at ∙ itself b.q.track in
    subst (λ (x : Place). has (is_on line x.track) (section_of_group line x.group) ≡ true) b.is
    (ap (λ o. option_map_or (is_on line b.q.track) o false) b.group ∙ on)

-- a place on a track is that of the report, and of the track
pub record IsPlacedOn (line : Line) (track : ℕ) (p : Position) (place : Place) : Type 0 where
  pub extent_is : extent line p ≡ Some place
  pub track_is : place.track ≡ track

pub placed_on : (line : Line) (track : ℕ) (p : Position) (place : Place) → place_on line track p ≡ Some place
    → IsPlacedOn line track p place
placed_on line track p place is = by_extent (extent line p) refl is
  where
    by_track : (q : Place) → extent line p ≡ Some q → (b : Bool) → (q.track == track) ≡ b
        → (if b then Some q else None) ≡ Some place → IsPlacedOn line track p place
    by_track q at true on is =
        let same : q ≡ place = cc in
        record {
          extent_is = at ∙ ap (λ r. Some r) same;
          track_is = ap (λ (r : Place). r.track) (sym same)
              ∙ eqb-true q.track track on;
        }
    by_track q at false on is = cc

    by_extent : (o : Option Place) → extent line p ≡ o
        → option_map_or (λ q. if q.track == track then Some q else None) o None ≡ Some place
        → IsPlacedOn line track p place
    by_extent (Some q) at is = by_track q at (q.track == track) refl is
    by_extent None at is = cc

-- a place that is fit for a start
pub fit_is : (line : Line) (is_valid : Bool) (p : Position) (place : Place) → fit_place line is_valid p ≡ Some place
    → (is_fit line place ≡ true) × (extent line p ≡ Some place)
fit_is line is_valid p place is = by_extent (extent line p) refl is
  where
    by_test : (q : Place) → extent line p ≡ Some q → (b : Bool) → (is_valid && is_fit line q) ≡ b
        → (if b then Some q else None) ≡ Some place → (is_fit line place ≡ true) × (extent line p ≡ Some place)
    by_test q at true fits is =
        let same : q ≡ place = cc in (
          subst (λ (x : Place). is_fit line x ≡ true) same (and_parts is_valid (is_fit line q) fits).1,
          at
              ∙ ap (λ x. Some x) same,
        )
    by_test q at false fits is = cc

    by_extent : (o : Option Place) → extent line p ≡ o
        → option_map_or (λ q. if is_valid && is_fit line q then Some q else None) o None ≡ Some place
        → (is_fit line place ≡ true) × (extent line p ≡ Some place)
    by_extent (Some q) at is = by_test q at (is_valid && is_fit line q) refl is
    by_extent None at is = cc

-- # A message that is answered is silent for none of its reasons.

-- the reason at this place of the list does not hold
pub not_for : (line : Line) (c : ℕ) (k : Centre) (m : TrainMessage) (body : TrainBody) (n : ℕ) (why : Reason)
    → m.body ≡ body → silence line c k m ≡ None
    → slice_get (reasons_of body) n ≡ Some why → holds line c k m why ≡ false
not_for line c k m body n why is heard at =
    none_passes (holds line c k m) (reasons_of m.body) n why heard (ap (λ b. slice_get (reasons_of b) n) is ∙ at)

-- # No distance is counted back from its group.

-- the end of a run that follows another
next_after_joined : (a b : SectionRun) → b.first ≡ next_after a → next_after (joined a b) ≡ next_after a + b.count
next_after_joined a b follows = ⊎_elim
    (λ (none : a.count ≡ 0). ap next_after
    (cond-true (is_empty a) b (record { first = a.first; count = a.count + b.count }) (eq-eqb a.count 0 none))
    ∙ (omega arith))
    (λ (some : a.count ≢ 0). ap next_after
    (cond-false (is_empty a) b (record { first = a.first; count = a.count + b.count }) (ne_eqb a.count 0 some))
    ∙ (omega arith))
    (cases_eq a.count 0)

module _ (line : Line) (c : ℕ) (k : Centre) (m : TrainMessage) (n : Mission) (place : Place)
    (h : IsRequestHeard line c k m n place) where
  -- the place is not past the hand's end
  not_past : place.front ≤ 10 * end line (next_after n.hand - 1)
  not_past =
      let none : mission_has (λ o. not (may_request line o h.position)) (k.mission m.nid_engine) ≡ false
      = sym (ap (has_no_place line (k.mission m.nid_engine)) h.asks)
      ∙ not_for line c k m (Request h.position) 8 NoPlace h.asks h.heard refl in
      let may : may_request line n h.position ≡ true =
      not-false (may_request line n h.position)
      (sym (ap (mission_has (λ o. not (may_request line o h.position))) h.mission) ∙ none) in
      let both = and_parts (nat_le place.front (10 * end line (next_after n.hand - 1)))
      (nat_le (end line (next_after n.hand - 1)) (group_start line place + 32767))
      (sym (ap (λ o. option_map_or (λ (q : Place). nat_le q.front (10 * end line (next_after n.hand - 1))
      && nat_le (end line (next_after n.hand - 1)) (group_start line q + 32767)) o false) h.place_is) ∙ may) in
      leb-true place.front (10 * end line (next_after n.hand - 1)) both.0

  -- nor is its group
  pub group_before : group_start line place ≤ end line (next_after n.hand - 1)
  group_before =
      let ahead : IsAhead line place =
      extent_ahead line h.position place (placed_on line n.place.track h.position place h.place_is).extent_is in
      omega (arith, ahead, not_past)

  abbrev more : SectionRun
  more = extension line c k (record n { place = place })

  abbrev test : ℕ → Bool
  test = may_follow line c k (record n { place = place })

  more_on : (s : ℕ) → within more s ≡ true → is_on line place.track s ≡ true
  more_on s in_more =
      let passes : test s ≡ true = (longest_is test (next_after n.hand) (32 - n.hand.count)).each s in_more in
      let reach = and_parts (is_on line place.track s && (is_free line c k s || within n.pool s))
      (nat_le (end line s) (group_start line place + 32767)) passes in
      (and_parts (is_on line place.track s) (is_free line c k s || within n.pool s) reach.0).0

  pub authority_reaches : is_on line place.track (next_after n.hand - 1) ≡ true
      → group_start line place ≤ end line (next_after (extended line c k place n).hand - 1)
  authority_reaches on = ⊎_elim
      (λ (none : more.count ≡ 0).
      let same : next_after (joined n.hand more) - 1 ≡ next_after n.hand - 1 =
      omega (arith, none, next_after_joined n.hand more refl) in
      omega (arith, group_before, ap (end line) same))
      (λ (some : more.count ≢ 0).
      let last : ℕ = next_after n.hand + more.count - 1 in
      let same : next_after (joined n.hand more) - 1 ≡ last = omega (arith, next_after_joined n.hand more refl) in
      let rises = ends_rise line place.track (next_after n.hand - 1) last on
      (more_on last (within_from more last (omega (arith, some)) (omega (arith, some)))) (omega (arith, some)) in
      omega (arith, group_before, ap (end line) same, rises))
      (cases_eq more.count 0)

  pub border_ahead : (d : ℕ) → IsLine line → is_on line place.track (next_after n.hand - 1) ≡ true
      → is_empty n.hand ≡ false
      → is_empty (part_at line d place.track n.hand) ≡ true
      → is_empty (part_at line d place.track (extended line c k place n).hand) ≡ false
      → group_start line place ≤ start line (part_at line d place.track (extended line c k place n).hand).first
  border_ahead d ok on some none there =
      let hand : SectionRun = joined n.hand more in
      let part : SectionRun = shared hand (home_run line d place.track) in
      let border : ℕ = part.first in
      let filled : part.count ≢ 0 = eqb-false part.count 0 there in
      let both = and_parts (within hand border) (within (home_run line d place.track) border)
      (sym (within_shared hand (home_run line d place.track) border)
      ∙ within_from part border (omega (arith, filled)) (omega (arith, filled))) in
      let of_d = and_parts (is_home line d border) (is_on line place.track border)
      (sym (homes_run line d place.track border ok) ∙ both.1) in
      let new : within more border ≡ true = ⊎_elim
      (λ (old : within n.hand border ≡ true).
      let shared_old : within (part_at line d place.track n.hand) border ≡ true =
      within_shared n.hand (home_run line d place.track) border
      ∙ and_from (within n.hand border) (within (home_run line d place.track) border) old both.1 in
      let ends = within_true (part_at line d place.track n.hand) border shared_old in
      absurd (no_room (part_at line d place.track n.hand) (eqb-true (part_at line d place.track n.hand).count 0 none)
      border ends.0 ends.1))
      (λ (later : within more border ≡ true). later)
      (or_cases (within n.hand border) (within more border) (sym (within_joined n.hand more border refl) ∙ both.0)) in
      let ends = within_true more border new in
      let count : n.hand.count ≢ 0 = eqb-false n.hand.count 0 some in
      let before = ends_before line place.track (next_after n.hand - 1) border on of_d.1
      (omega (arith, count, ends.0)) in
      omega (arith, group_before, before)
    where
      no_room : (r : SectionRun) → r.count ≡ 0 → (s : ℕ) → r.first ≤ s → s < r.first + r.count → ⊥
      no_room r empty s low high = omega arith

-- a request to shorten reaches no section that starts before the group
pub shortening_reaches : (line : Line) (t s : ℕ) (m : Mission) (k : Centre) → IsAhead line m.place
    → may_propose line t s m k ≡ true
    → group_start line m.place ≤ start line s
shortening_reaches line t s m k ahead may =
    let parts = and_parts ((is_up (k.phase t) && not m.is_ended) && is_none m.proposal) _ may in
    let near = and_parts ((within m.hand s && not (s == m.hand.first)) && nat_le m.place.front (10 * start line s))
    (nat_le (start line s) (group_start line m.place + 32767)) parts.1 in
    let front = and_parts (within m.hand s && not (s == m.hand.first))
    (nat_le m.place.front (10 * start line s)) near.0 in
    let le = leb-true m.place.front (10 * start line s) front.1 in
    omega (arith, ahead, le)

-- # A silent message does nothing, and its outcome has the reason.

module _ (line : Line) (c : ℕ) (k : Centre) (m : TrainMessage) where
  abbrev j : Centre
  j = ticked (stamp_of k (Train m)) k

  abbrev quiet : Reason → Effect
  quiet why = record { reply = rest j; link = None; silence = Some why }

  abbrev answer : Effect
  answer = record { reply = hear_and_answer line c m j; link = None; silence = None }

  reason : (o : Option Reason) → (option_map_or {U = Effect} quiet o answer).silence ≡ o
  reason (Some why) = refl
  reason None = refl

  pub silence_is : (taken line c (Train m) k).0.silence ≡ silence line c k m
  silence_is = reason (silence line c k m)

  effect_is : (why : Reason) → silence line c k m ≡ Some why → effect line c j (Train m) ≡ quiet why
  effect_is why is = ap (λ o. option_map_or {U = Effect} quiet o answer) is

  pub state_is : (why : Reason) → silence line c k m ≡ Some why → (taken line c (Train m) k).1 ≡ j
  state_is why is = ap (λ e. state_after (stamp_of k (Train m)) j e) (effect_is why is)
      ∙ (λ i. record j { sent = λ d. append-nil (k.sent d) i })

  pub sayings_are : (why : Reason) → silence line c k m ≡ Some why → (taken line c (Train m) k).0.sayings ≡ []
  sayings_are why is = ap (λ (e : Effect). e.reply.sayings) (effect_is why is)

  pub words_are : (why : Reason) → silence line c k m ≡ Some why → (taken line c (Train m) k).0.words ≡ []
  words_are why is = ap (λ (e : Effect). e.reply.words) (effect_is why is)

  pub frames_are : (d : ℕ) (why : Reason) → silence line c k m ≡ Some why → (taken line c (Train m) k).0.frames d ≡ []
  frames_are d why is = ap (λ e. (outcome_of (stamp_of k (Train m)) j e).frames d) (effect_is why is)

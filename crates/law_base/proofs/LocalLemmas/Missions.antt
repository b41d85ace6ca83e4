-- A centre that is local stays so as missions start, go on, and end.
use Rattle.std.proofs.Common.{⊎_elim, ◌&&◌, ◌+◌, ◌-◌, ◌==◌, ◌||◌, ◌∙◌, ◌≡◌, ap, arith, Bool, eqb-true, false}
use Rattle.std.proofs.Common.{if◌then◌else◌, is_none, None, Option, refl, Some, subst, sym, true, ℕ}
use Rattle.std.proofs.lemmas.Bool.{and_parts, both_ways, cases_Bool, or_cases}
use Rattle.std.proofs.lemmas.Option.{same_Some}
use Rattle.std.specs.Option.{option_map_or}
use Rattle.law_base.proofs.LocalLemmas.Changes.{booked_local, changed, goes_on, starts_here}
use Rattle.law_base.proofs.LocalLemmas.Homes.{begun_local, fit_of, fit_parts, free_at_registrar, IsFit, none_next}
use Rattle.law_base.proofs.LocalLemmas.Homes.{restarted_local}
use Rattle.law_base.proofs.LocalLemmas.Stays.{if_stays, or_stays, other_parts, rest_stays, Stays, then_stays}
use Rattle.law_base.specs.Local.Local.{hand_has, IsLocalAt, IsLocalMission, IsOrdered}
use Rattle.rbc_spec.proofs.Runs.{each_within, joined_count, longest_each, longest_few, within_joined, within_true}
use Rattle.rbc_spec.specs.Acts.{◌>>◌, Act, become, begun, booked, rest, say, set_mission}
use Rattle.rbc_spec.specs.Centre.{Centre, is_free, is_open, is_registrar_of, Mission, Taken}
use Rattle.rbc_spec.specs.Line.{Line, next_centre, train_number}
use Rattle.rbc_spec.specs.Maps.{put}
use Rattle.rbc_spec.specs.Message.{Authority, TrackBody}
use Rattle.rbc_spec.specs.Place.{covered, extent, fit_place, Place, place_on, Position}
use Rattle.rbc_spec.specs.Rules.{accept, at_border, authority, begin, extended_by, extension, grant, may_follow, reject}
use Rattle.rbc_spec.specs.Rules.{request, restart, start_here, start_mission, start_new, start_waiting}
use Rattle.rbc_spec.specs.SectionRuns.{all_of, is_empty, joined, next_after, no_run, part_from, SectionRun, within}
use Rattle.rbc_spec.specs.Sections.{is_on}
use Rattle.rbc_spec.specs.Theorems.{IsOneCentreLine}

pub none_within : (s : ℕ) → within no_run s ≡ true → ⊥
none_within s is = let at = within_true no_run s is in omega (arith, at)

-- the place of a report is on the track that it was asked for
pub place_of : (track : ℕ) (o : Option Place) (place : Place)
    → option_map_or (λ p. if p.track == track then Some p else None) o None ≡ Some place
    → (place.track ≡ track) × (o ≡ Some place)
place_of track (Some p) place is = ⊎_elim
    (λ (here : (p.track == track) ≡ true).
    let same : p ≡ place = same_Some p place (sym (ap (λ b. if b then Some p else None) here) ∙ is) in
    (ap (λ (q : Place). q.track) (sym same) ∙ eqb-true p.track track here, ap Some same))
    (λ (other : (p.track == track) ≡ false). absurd (no_place (sym (ap (λ b. if b then Some p else None) other) ∙ is)))
    (cases_Bool (p.track == track))
  where
    no_place : None ≡ Some place → ⊥
    no_place e = cc
place_of track None place is = cc

module _ (line : Line) (c : ℕ) where
  -- ## Acts together

  pub then_both : (a b : Act) (k : Centre) → Stays line c (a k)
      → ((j : Centre) → IsLocalAt line c j → Stays line c (b j)) → Stays line c ((a >> b) k)
  then_both a b k one two = then_stays line c a b k one.frames (two (a k).state one.state)

  pub if_act : (b : Bool) (f g : Act) (k : Centre) → (b ≡ true → Stays line c (f k)) → (b ≡ false → Stays line c (g k))
      → Stays line c ((if b then f else g) k)
  if_act true f g k one two = one refl
  if_act false f g k one two = two refl

  pub or_act : {X : Type 0} (o : Option X) (f : X → Act) (g : Act) (k : Centre)
      → ((x : X) → o ≡ Some x → Stays line c (f x k)) → (o ≡ None → Stays line c (g k))
      → Stays line c (option_map_or f o g k)
  or_act (Some x) f g k one two = one x refl
  or_act None f g k one two = two refl

  pub said : (t group : ℕ) (body : TrackBody) (k : Centre) → IsLocalAt line c k → Stays line c (say t group body k)
  said t group body k h = record {
    state = other_parts line c k k.clock k.phase k.heard (put k.said t (k.said t + 1)) k.announced k.taken h;
    frames = λ d. refl;
  }

  module _ (ordered : IsOrdered line) where
    -- ## Start

    pub restarted : (t : ℕ) (place : Place) (m : Mission) (k : Centre) → IsLocalAt line c k → k.mission t ≡ Some m
        → IsFit line place → Stays line c (restart line t place m k)
    restarted t place m k h at fit = if_act (all_of (within m.hand) (covered line place)) _ _ k
        (λ all. then_both _ (accept t) k
        (changed line c t (λ n. record n { place = place; has_data = false; is_ended = false; proposal = None }) k h
        (λ n is. refl)
        (λ n is. restarted_local line ordered place fit n (h.mission t n is)
        (subst (λ (q : Mission). all_of (within q.hand) (covered line place) ≡ true)
        (same_Some m n (sym at ∙ is)) all)))
        (λ j local. said t _ _ j local))
        (λ no_room. said t _ _ k h)

    begun_here : (t : ℕ) (place : Place) (k : Centre) → IsLocalAt line c k → k.mission t ≡ None → IsFit line place
        → all_of (is_free line c k) (covered line place) ≡ true → is_registrar_of line c t ≡ true
        → Stays line c
        (((booked is_open (Taken t) (covered line place)
        >> become (λ j. record j { has_right = put j.has_right t false })) >> begin line t place) k)
    unfolding ◌>>◌
    begun_here t place k h none fit all here =
        let j : Centre =
        ((booked is_open (Taken t) (covered line place)
        >> become (λ i. record i { has_right = put i.has_right t false })) k).state in
        then_stays line c (booked is_open (Taken t) (covered line place)
        >> become (λ i. record i { has_right = put i.has_right t false })) (begin line t place) k (λ d. refl)
        (then_both (set_mission t (Some (begun line place))) (accept t) j
        (record {
          state = booked_local line c k t (covered line place) (Some (begun line place)) (put k.has_right t false) h
              (each_within (is_free line c k) (covered line place) all)
              (λ s. sym (ap (λ o. hand_has o s || within (covered line place) s) none))
              (starts_here line c k t (begun line place) here (begun_local line ordered place fit));
          frames = λ d. refl;
        })
        (λ i local. said t _ _ i local))

    -- a start, if its sections are free only at the train's registrar
    pub started : (t : ℕ) (place : Place) (k : Centre) → IsLocalAt line c k → k.mission t ≡ None → IsFit line place
        → (all_of (is_free line c k) (covered line place) ≡ true → is_registrar_of line c t ≡ true)
        → Stays line c (start_new line c t place k)
    started t place k h none fit registered = if_stays line c (all_of (is_free line c k) (covered line place)) _ _
        (λ all. if_act (is_registrar_of line c t) (start_here line t place) (start_waiting line t place) k
        (λ here. if_stays line c (k.has_right t) _ _ (λ right. begun_here t place k h none fit all here)
        (λ away. said t _ _ k h))
        (λ away. absurd (both_ways (is_registrar_of line c t) away (registered all))))
        (λ taken. said t _ _ k h)

    -- of a train of a one-centre line
    pub answered_start : (d : ℕ) → IsOneCentreLine line d → (t : ℕ) (is_valid : Bool) (position : Position) (k : Centre)
        → is_none (train_number line t) ≡ false → IsLocalAt line c k
        → Stays line c (start_mission line c t is_valid position k)
    answered_start d one t is_valid position k known h =
        or_stays line c (fit_place line is_valid position) _ (reject t k)
        (λ place fits.
        let fit = fit_parts line place (fit_of line is_valid (extent line position) place fits) in
        or_stays line c (k.mission t) (λ m. restart line t place m k) (start_new line c t place k)
        (λ m at. restarted t place m k h at fit)
        (λ none. started t place k h none fit
        (free_at_registrar line d one ordered c t k is_valid position place known fits)))
        (λ none. said t _ _ k h)

    -- ## Request

    follows : (k : Centre) (m : Mission) (place : Place) (s : ℕ) → let r : SectionRun =
        extension line c k (record m { place = place }) in
        within r s ≡ true → may_follow line c k (record m { place = place }) s ≡ true
    follows k m place s is =
        let at = within_true (extension line c k (record m { place = place })) s is in
        longest_each (may_follow line c k (record m { place = place })) (next_after m.hand)
        (32 - m.hand.count) s at.0 at.1

    follows_free : (k : Centre) (m : Mission) (place : Place) → IsLocalMission line m
        → (s : ℕ) → within (extension line c k (record m { place = place })) s ≡ true → is_free line c k s ≡ true
    follows_free k m place local s is =
        let parts = and_parts (is_on line place.track s && (is_free line c k s || within m.pool s)) _
        (follows k m place s is) in
        let free = (and_parts (is_on line place.track s) (is_free line c k s || within m.pool s) parts.0).1 in
        ⊎_elim (λ (f : is_free line c k s ≡ true). f)
        (λ (p : within m.pool s ≡ true). absurd (none_within s (sym (ap (λ r. within r s) local.no_pool) ∙ p)))
        (or_cases (is_free line c k s) (within m.pool s) free)

    follows_on : (k : Centre) (m : Mission) (place : Place) (s : ℕ)
        → within (extension line c k (record m { place = place })) s ≡ true → is_on line place.track s ≡ true
    follows_on k m place s is =
        let parts = and_parts (is_on line place.track s && (is_free line c k s || within m.pool s)) _
        (follows k m place s is) in
        (and_parts (is_on line place.track s) (is_free line c k s || within m.pool s) parts.0).0

    granted_local : (k : Centre) (m : Mission) (place : Place) → IsLocalMission line m → place.track ≡ m.place.track
        → IsLocalMission line (extended_by (extension line c k (record m { place = place }))
        (record m { place = place }))
    granted_local k m place local same =
        let r : SectionRun = extension line c k (record m { place = place }) in
        let count : (joined m.hand r).count ≡ m.hand.count + r.count = joined_count m.hand r in
        record {
          no_pool = ap (λ p. if is_empty p then p else part_from (next_after r) p) local.no_pool;
          no_handing = local.no_handing;
          some = omega (arith, count, local.some);
          few = omega (
            arith,
            count,
            local.few,
            longest_few (may_follow line c k (record m { place = place }))
                (next_after m.hand) (32 - m.hand.count),
          );
          on_track = λ s is. ⊎_elim
              (λ (old : within m.hand s ≡ true). subst (λ t. is_on line t s ≡ true) (sym same) (local.on_track s old))
              (λ (new : within r s ≡ true). follows_on k m place s new)
              (or_cases (within m.hand s) (within r s) (sym (within_joined m.hand r s refl) ∙ is));
        }

    pub granted_more : (d : ℕ) → IsOneCentreLine line d → (t : ℕ) (m : Mission) (place : Place) (k : Centre)
        → IsLocalAt line c k → k.mission t ≡ Some m → place.track ≡ m.place.track
        → Stays line c (grant line c t (record m { place = place }) k)
    granted_more d one t m place k h at same =
        let n : Mission = record m { place = place } in
        let r : SectionRun = extension line c k n in
        let local = h.mission t m at in
        then_both ((booked is_open (Taken t) r >> set_mission t (Some (extended_by r n)))
        >> say t place.group (Authority (authority line (extended_by r n))))
        (option_map_or (at_border line c t) (next_centre line c place.track) rest) k
        (then_both (booked is_open (Taken t) r >> set_mission t (Some (extended_by r n)))
        (say t place.group (Authority (authority line (extended_by r n)))) k
        (then_stays line c (booked is_open (Taken t) r) (set_mission t (Some (extended_by r n))) k (λ d. refl) (record {
          state = booked_local line c k t r (Some (extended_by r n)) k.has_right h
              (follows_free k m place local)
              (λ s. within_joined m.hand r s refl ∙ sym (ap (λ o. hand_has o s || within r s) at))
              (goes_on line c k t m (extended_by r n) h at (granted_local k m place local same));
          frames = λ d. refl;
        }))
        (λ j stays. said t _ _ j stays))
        (λ j stays. or_act (next_centre line c place.track) (at_border line c t) rest j
        (λ e next. absurd (let wrong : None ≡ Some e = sym (none_next line d one c place.track) ∙ next in cc))
        (λ none. rest_stays line c j stays))

    pub answered_request : (d : ℕ) → IsOneCentreLine line d → (t : ℕ) (position : Position) (k : Centre)
        → IsLocalAt line c k → Stays line c (request line c t position k)
    answered_request d one t position k h = or_stays line c (k.mission t) _ (rest k)
        (λ m at. or_act (place_on line m.place.track position)
        (λ place. grant line c t (record m { place = place })) rest k
        (λ place is. granted_more d one t m place k h at (place_of m.place.track (extent line position) place is).0)
        (λ none. rest_stays line c k h))
        (λ none. rest_stays line c k h)

-- The sections that a place clears leave the hand: the state that the one line centre shows, and the replies.
use Rattle.std.proofs.Common.{[], ℤ, ◌&&◌, ◌*◌, ◌+◌, ◌<◌, ◌==◌, ◌∙◌, ◌≡◌, ◌≢◌, ◌≤◌, ◌⊎◌, ap, arith, Bool, eqb-true}
use Rattle.std.proofs.Common.{false, if◌then◌else◌, inl, inr, int_le, le-leb, leb-true, negsuc, None, not, Option}
use Rattle.std.proofs.Common.{option_map, pos, refl, Some, subst, sym, true, ℕ}
use Rattle.std.proofs.lemmas.Bool.{and_from, and_parts, both_ways, cases_lt, eqb-false}
use Rattle.std.specs.Option.{option_map_or}
use Rattle.law_base.proofs.LocalLemmas.Worlds.{is_ordered}
use Rattle.law_invariants.proofs.HandoverLemmas.Moves.{goes_report_here}
use Rattle.law_invariants.proofs.NoCopyLemmas.Messages.{fair_report_here, standing}
use Rattle.law_invariants.proofs.NoCopyLemmas.Tally.{mission_of}
use Rattle.law_invariants.proofs.SoundLemmas.Reports.{report_here_sound}
use Rattle.law_invariants.proofs.SoundLemmas.Sends.{joined_without, not_away}
use Rattle.law_invariants.specs.Flow.Flow.{Flow}
use Rattle.law_invariants.specs.Flow.Leads.{replied, said_by}
use Rattle.law_invariants.specs.Flow.Shows.{Shows}
use Rattle.law_invariants.specs.Flow.Sound.{IsFlowSound, IsMissionAt}
use Rattle.law_refinement.proofs.MissionsLemmas.Heard.{act_sound}
use Rattle.law_refinement.proofs.MissionsLemmas.Leaves.{close_is, given_is, leaving_shown, none_given, run_leaves}
use Rattle.law_refinement.proofs.MissionsLemmas.Leaves.{run_told, some_given, still_given}
use Rattle.law_refinement.proofs.MissionsLemmas.Sets.{Sets, sets_close, sets_mission}
use Rattle.rbc_spec.proofs.Lists.{put_over, put_there}
use Rattle.rbc_spec.proofs.Runs.{longest_is, same_tests, within_after, within_from, within_true}
use Rattle.rbc_spec.specs.Acts.{◌>>◌, close, leave, Reply, set_mission as set_here}
use Rattle.rbc_spec.specs.Centre.{Centre, Mission}
use Rattle.rbc_spec.specs.Line.{end, is_centre, is_home, IsLine, Line}
use Rattle.rbc_spec.specs.LineCentre.{change_mission, is_given_to, LineMission, LineState, release, set_mission}
use Rattle.rbc_spec.specs.Maps.{put}
use Rattle.rbc_spec.specs.OwnSteps.{is_cleared_of, release_words, reported}
use Rattle.rbc_spec.specs.Place.{is_cleared, Place, Position}
use Rattle.rbc_spec.specs.ReadOff.{seen}
use Rattle.rbc_spec.specs.Rules.{clear, cleared, report_here}
use Rattle.rbc_spec.specs.SectionRuns.{IsLongest}
use Rattle.rbc_spec.specs.SectionRuns.{joined, next_after, part_from, SectionRun, within}

-- if a section is cleared, so is one that ends no farther
cleared_before : (line : Line) (place : Place) (s e : ℕ) → end line s ≤ end line e → is_cleared line place e ≡ true
    → is_cleared line place s ≡ true
cleared_before line place s e le = by_rear place.rear
  where
    by_rear : (o : Option ℤ) → option_map_or (λ rear. int_le (pos (10 * end line e)) rear) o false ≡ true
        → option_map_or (λ rear. int_le (pos (10 * end line s)) rear) o false ≡ true
    by_rear None h = cc
    by_rear (Some (pos b)) h = let far = leb-true (10 * end line e) b h in
        le-leb (10 * end line s) b (omega (arith, far, le))
    by_rear (Some (negsuc b)) h = cc

module _ (line : Line) (ok : IsLine line) (w : Flow) (sound : IsFlowSound line w) (v : LineState)
    (sees : Shows line w v) (c t : ℕ) (to : is_centre line c ≡ true) (m : Mission)
    (at : (w.at c).mission t ≡ Some m) where
  abbrev pub k : Centre
  k = w.at c

  is : IsMissionAt line c k m
  is = (sound.centres c to).mission t m at

  pub seen_is : v.mission t ≡ Some (seen c m)
  seen_is = sees.mission t c m at

  -- the whole hand leaves with the pool, which has no section of home c
  pub whole_at_home : (s : ℕ) → is_home line c s ≡ true → within (joined m.hand m.pool) s ≡ within m.hand s
  whole_at_home s home = joined_without m.hand m.pool s (λ some more. is.pool_follows more)
      (not_away (within m.pool s) (is_home line c s) home (is.pool_away s))

  -- the replies of the report, and the state that is shown after it
  pub record Reported (place : Place) (q : Reply) : Type 0 where
    pub tells : said_by q ≡ record { sayings = []; words = release_words line c (is_cleared_of line v t place) v }
    pub shows : Shows line (replied w c q) (reported line t c place v)
    pub left : Option Mission
    pub left_is : q.state.mission t ≡ left
    pub shown_is : (reported line t c place v).mission t ≡ option_map (seen c) left
    pub none_left : left ≡ None → (s : ℕ) → is_given_to t ((reported line t c place v).mark s) ≡ false

  module _ (place : Place) where
    abbrev part : SectionRun
    part = cleared line place m

    abbrev is_released : ℕ → Bool
    is_released s = is_cleared_of line v t place s

    most : IsLongest (is_cleared line place) m.hand.first m.hand.count part.count
    most = longest_is (is_cleared line place) m.hand.first m.hand.count

    inside : (s : ℕ) → is_released s ≡ true → within m.hand s ≡ true
    inside s so = sym (given_is line w sound v sees c t to m at s)
        ∙ (and_parts (is_given_to t (v.mark s)) (is_cleared line place s) so).0

    part_inside : (s : ℕ) → within part s ≡ true → within m.hand s ≡ true
    part_inside s so = let ends = within_true part s so in
        within_from m.hand s (omega (arith, ends.0)) (omega (arith, ends.1, most.fits))

    -- since ends rise along a track, the cleared sections are the first part of the hand
    part_is : (s : ℕ) → within part s ≡ is_released s
    part_is s = sym (ap (λ b. b && is_cleared line place s) (given_is line w sound v sees c t to m at s)
        ∙ same_tests (within m.hand s && is_cleared line place s) (within part s) is_part is_cleared_there)
      where
        is_cleared_there : within part s ≡ true → (within m.hand s && is_cleared line place s) ≡ true
        is_cleared_there so = and_from (within m.hand s) (is_cleared line place s) (part_inside s so) (most.each s so)

        is_part : (within m.hand s && is_cleared line place s) ≡ true → within part s ≡ true
        is_part both =
            let parts = and_parts (within m.hand s) (is_cleared line place s) both in
            let ends = within_true m.hand s parts.0 in
            by_place ends.0 ends.1 parts.0 parts.1 (cases_lt s (m.hand.first + part.count))
          where
            by_place : m.hand.first ≤ s → s < m.hand.first + m.hand.count → within m.hand s ≡ true
                → is_cleared line place s ≡ true → (s < m.hand.first + part.count) ⊎ (m.hand.first + part.count ≤ s)
                → within part s ≡ true
            by_place low high so clears (inl before) = within_from part s low before
            by_place low high so clears (inr after) =
                let next : ℕ = m.hand.first + part.count in
                let next_in : within m.hand next ≡ true =
                within_from m.hand next (omega arith) (omega (arith, after, high)) in
                absurd (both_ways (is_cleared line place next) (most.ends (omega (arith, after, high)))
                (cleared_before line place next s
                ((is_ordered line ok).ends_rise m.place.track next s after (is.hand.on_track next next_in)
                (is.hand.on_track s so)) clears))

    abbrev placed : LineState
    placed = change_mission t (λ n. record n { place = place }) (release line c t is_released v)

    -- the whole hand is cleared
    all_released : (part.count == m.hand.count) ≡ true → (s : ℕ) → within m.hand s ≡ true → is_released s ≡ true
    all_released all s so = let same = eqb-true part.count m.hand.count all in let ends = within_true m.hand s so in
        sym (part_is s) ∙ within_from part s (omega (arith, ends.0)) (omega (arith, ends.1, same))

    whole_is : (part.count == m.hand.count) ≡ true → (s : ℕ) → within m.hand s ≡ is_released s
    whole_is all s = same_tests (within m.hand s) (is_released s) (all_released all s) (inside s)

    gone_mission : (u : ℕ) → put placed.mission t None u ≡ put v.mission t None u
    gone_mission u =
        put_over t None (option_map (λ (n : LineMission). record n { place = place }) (v.mission t)) v.mission u

    clears_all : (part.count == m.hand.count) ≡ true
        → Reported place ((leave line c t m.place.track (joined m.hand m.pool) >> close line c t m) k)
    clears_all all = record {
      tells = run_told line w sound v sees c t to m at is_released inside (joined m.hand m.pool) at_home m.place.track
          (close line c t m) None sets;
      shows = subst
          (Shows line (replied w c ((leave line c t m.place.track (joined m.hand m.pool) >> close line c t m) k)))
          (sym becomes)
          (leaving_shown line w sound v sees c t to m at is_released inside None _
          (run_leaves line w sound v sees c t to m at is_released inside (joined m.hand m.pool) at_home m.place.track
          (close line c t m) None sets none_left));
      left = None;
      left_is =
          (run_leaves line w sound v sees c t to m at is_released inside (joined m.hand m.pool) at_home m.place.track
          (close line c t m) None sets none_left).mission t ∙ put_there k.mission t None;
      shown_is = ap (λ (x : LineState). x.mission t) becomes ∙ put_there v.mission t None;
      none_left = λ gone s. ap (λ (x : LineState). is_given_to t (x.mark s)) becomes
          ∙ still_given line w sound v sees c t to m at is_released inside s ∙ sym (none_left s);
    }
      where
        left_so : Centre
        left_so = (leave line c t m.place.track (joined m.hand m.pool) k).state

        sets : Sets c t None left_so (close line c t m left_so)
        sets = sets_close c t line m left_so

        at_home : (s : ℕ) → is_home line c s ≡ true → within (joined m.hand m.pool) s ≡ is_released s
        at_home s home = whole_at_home s home ∙ whole_is all s

        none_left : (s : ℕ) → false ≡ (within m.hand s && not (is_released s))
        none_left s = by_hand (within m.hand s) (is_released s) (whole_is all s)
          where
            by_hand : (a b : Bool) → a ≡ b → false ≡ (a && not b)
            by_hand true true e = refl
            by_hand true false e = cc
            by_hand false b e = refl

        becomes : reported line t c place v ≡ set_mission t None (release line c t is_released v)
        becomes =
            close_is line t placed false
            (none_given line w sound v sees c t to m at is_released inside (all_released all))
            ∙ (λ i. record placed { mission = λ u. gone_mission u i })

    abbrev shorter : Mission
    shorter = record m { place = place; hand = part_from (next_after part) m.hand }

    clears_part : (part.count == m.hand.count) ≡ false
        → Reported place ((leave line c t m.place.track part >> set_here t (Some shorter)) k)
    clears_part some = record {
      tells = run_told line w sound v sees c t to m at is_released inside part (λ s home. part_is s) m.place.track
          (set_here t (Some shorter)) (Some shorter) sets;
      shows = subst (Shows line (replied w c ((leave line c t m.place.track part >> set_here t (Some shorter)) k)))
          (sym becomes)
          (leaving_shown line w sound v sees c t to m at is_released inside (Some shorter) _
          (run_leaves line w sound v sees c t to m at is_released inside part (λ s home. part_is s) m.place.track
          (set_here t (Some shorter)) (Some shorter) sets rest_of));
      left = Some shorter;
      left_is =
          (run_leaves line w sound v sees c t to m at is_released inside part (λ s home. part_is s) m.place.track
          (set_here t (Some shorter)) (Some shorter) sets rest_of).mission t ∙ put_there k.mission t (Some shorter);
      shown_is = ap (λ (x : LineState). x.mission t) becomes ∙ put_there v.mission t (Some (seen c shorter));
      none_left = λ gone. cc;
    }
      where
        left_so : Centre
        left_so = (leave line c t m.place.track part k).state

        sets : Sets c t (Some shorter) left_so (set_here t (Some shorter) left_so)
        sets = sets_mission c t (Some shorter) left_so

        differ : part.count ≢ m.hand.count
        differ = eqb-false part.count m.hand.count some

        rest_of : (s : ℕ) → within (part_from (next_after part) m.hand) s ≡ (within m.hand s && not (is_released s))
        rest_of s = same_tests _ _
            (λ is_left. let ends = within_true (part_from (next_after part) m.hand) s is_left in
            and_from (within m.hand s) (not (is_released s))
            (within_from m.hand s (omega (arith, ends)) (omega (arith, ends)))
            (ap not (sym (part_is s) ∙ within_after part s (omega (arith, ends)))))
            (λ both. let parts = and_parts (within m.hand s) (not (is_released s)) both in
            let ends = within_true m.hand s parts.0 in
            by_place ends (cases_lt s (next_after part)) parts.1)
          where
            by_place : (m.hand.first ≤ s) × (s < m.hand.first + m.hand.count) → (s < next_after part)
                ⊎ (next_after part ≤ s) → not (is_released s) ≡ true
                → within (part_from (next_after part) m.hand) s ≡ true
            by_place ends (inl before) kept =
                absurd (let wrong : false ≡ true = sym (ap not (sym (part_is s) ∙ within_from part s ends.0 before))
                ∙ kept in cc)
            by_place ends (inr after) kept =
                within_from (part_from (next_after part) m.hand) s (omega (arith, ends, after))
                (omega (arith, ends, after))

        becomes : reported line t c place v ≡ set_mission t (Some (seen c shorter)) (release line c t is_released v)
        becomes =
            close_is line t placed true (some_given line w sound v sees c t to m at is_released inside (next_after part)
            (within_from m.hand (next_after part) (omega arith) (omega (arith, most.fits, differ)))
            (sym (part_is (next_after part)) ∙ within_after part (next_after part) (omega arith)))
            ∙ ap (λ (o : Option LineMission). set_mission t
            (option_map (λ (n : LineMission). record n { place = place }) o)
            (release line c t is_released v)) seen_is

    by_count : (b : Bool) → (part.count == m.hand.count) ≡ b
        → Reported place
        ((if b then (leave line c t m.place.track (joined m.hand m.pool) >> close line c t m) else
        (leave line c t m.place.track part >> set_here t (Some shorter))) k)
    by_count true all = clears_all all
    by_count false some = clears_part some

    pub clears : Reported place (clear line c t m place k)
    clears = by_count (part.count == m.hand.count) refl

  -- ## All stays sound

  pub report_here_keeps : (position : Position) → IsFlowSound line (replied w c (report_here line c t position m k))
  report_here_keeps position = act_sound line ok c w sound to (report_here line c t position m k)
      (report_here_sound line ok c t position m k (sound.centres c to) at)
      (λ y counts ready. fair_report_here line c y counts t position m k (ap (mission_of y) at) is.pool_follows
      (standing line c y counts t m k at ready))
      (goes_report_here line c t position m k at)

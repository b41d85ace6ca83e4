-- The state that is shown after a start of mission that begins, and after one that waits.
use Rattle.std.proofs.Common.{[], ⊎_elim, ◌&&◌, ◌+◌, ◌==◌, ◌∙◌, ◌≡◌, ◌≢◌, ap, arith, Bool, false, if◌then◌else◌, List}
use Rattle.std.proofs.Common.{None, Option, option_map, refl, Some, subst, sym, true, ℕ}
use Rattle.std.proofs.lemmas.Bool.{and_parts, cases_eq}
use Rattle.law_base.proofs.CountingLemmas.Sums.{one_if_true}
use Rattle.law_base.specs.Counting.Network.{acted}
use Rattle.law_base.specs.Counting.Sums.{one_if}
use Rattle.law_base.specs.Local.Local.{hand_has}
use Rattle.law_invariants.specs.Flow.Flow.{Flow}
use Rattle.law_invariants.specs.Flow.Keeping.{nothing_came}
use Rattle.law_invariants.specs.Flow.Shows.{is_in_hand, Shows}
use Rattle.law_invariants.specs.Flow.Sound.{IsFlowSound}
use Rattle.law_refinement.proofs.AbstractionLemmas.Hands.{unchanged}
use Rattle.law_refinement.proofs.AbstractionLemmas.Marks.{in_use}
use Rattle.law_refinement.proofs.AbstractionLemmas.Missions.{none_here}
use Rattle.law_refinement.proofs.AbstractionLemmas.Shows.{enters_here, entry_here, part_changes, part_stays}
use Rattle.law_refinement.proofs.AbstractionLemmas.Shows.{shows_after}
use Rattle.law_refinement.proofs.SessionsLemmas.Changes.{act, mark_same, mission_same, SendsNothing, silent}
use Rattle.law_refinement.specs.Abstraction.After.{MarkAfter, MissionAfter}
use Rattle.law_refinement.specs.Abstraction.After.MarkAfter.{is_kept}
use Rattle.law_refinement.specs.Abstraction.After.MissionAfter.{is_here}
use Rattle.rbc_spec.proofs.Lists.{itself, one_home, put_other, put_there}
use Rattle.rbc_spec.specs.Acts.{begun}
use Rattle.rbc_spec.specs.Centre as centre
use Rattle.rbc_spec.specs.Centre.{Centre, is_free, is_open, is_used_for, Phase}
use Rattle.rbc_spec.specs.Frame.{Body}
use Rattle.rbc_spec.specs.Line.{is_centre, is_home, Line, section}
use Rattle.rbc_spec.specs.LineCentre as line_centre
use Rattle.rbc_spec.specs.LineCentre.{LineState, says}
use Rattle.rbc_spec.specs.Maps.{has, put, put_pair}
use Rattle.rbc_spec.specs.OwnSteps.{begins, begun_at, waits}
use Rattle.rbc_spec.specs.Place.{covered, Place}
use Rattle.rbc_spec.specs.ReadOff.{seen}
use Rattle.rbc_spec.specs.SectionRuns.{within}

module _ (line : Line) (w : Flow) (v : LineState) (sound : IsFlowSound line w) (sees : Shows line w v) (c t : ℕ)
    (at : is_centre line c ≡ true) (place : Place)
    (each_free : (s : ℕ) → within (covered line place) s ≡ true → is_free line c (w.at c) s ≡ true) (t_train : ℕ) where
  abbrev k : Centre
  k = w.at c

  free_is : (s : ℕ) → within (covered line place) s ≡ true → (is_home line c s ≡ true) × (is_open (k.book s) ≡ true)
  free_is s is = and_parts (is_home line c s) (is_open (k.book s)) (each_free s is)

  none_covered : (s : ℕ) → section line s ≡ None → within (covered line place) s ≡ false
  none_covered s none = by_cover (within (covered line place) s) refl
    where
      by_cover : (b : Bool) → within (covered line place) s ≡ b → within (covered line place) s ≡ false
      by_cover true is = absurd (let wrong : false ≡ true = sym (ap (has (λ p. p.home == c)) none)
          ∙ (free_is s is).0 in cc)
      by_cover false is = is

  -- the sections of the place are in use for the train
  abbrev pub put_to_use : ℕ → centre.Entry
  put_to_use s = if within (covered line place) s && is_open (k.book s) then centre.Taken t else k.book s

  used_now : (s : ℕ) → within (covered line place) s ≡ true → put_to_use s ≡ centre.Taken t
  used_now s is = rw (is, (free_is s is).1) refl

  as_before : (s : ℕ) → within (covered line place) s ≡ false → put_to_use s ≡ k.book s
  as_before s is = rw is refl

  -- ## A start that begins: its right was here

  module _ (y : Centre) (right : k.has_right t ≡ true) (no_mission : k.mission t ≡ None) (book : y.book ≡ put_to_use)
      (wish : y.wish ≡ k.wish) (phase : y.phase ≡ k.phase)
      (heard : y.heard ≡ put k.heard t (Some t_train)) (said : y.said ≡ put k.said t (k.said t + 1))
      (wait : y.wait ≡ k.wait) (mission : y.mission ≡ put k.mission t (Some (begun line place))) where
    abbrev new : Flow
    new = acted w c y (λ d. [])

    abbrev after : LineState
    after = says t c (begins line t c place (record v { heard = put_pair v.heard t c (Some t_train) }))

    begun_there : y.mission t ≡ Some (begun line place)
    begun_there = ap (λ (f : ℕ → Option centre.Mission). f t) mission ∙ put_there k.mission t (Some (begun line place))

    other_missions : (u : ℕ) → u ≢ t → y.mission u ≡ k.mission u
    other_missions u apart = ap (λ (f : ℕ → Option centre.Mission). f u) mission
        ∙ put_other k.mission t u (Some (begun line place)) apart

    hands_outside : (s : ℕ) → within (covered line place) s ≡ false → (u : ℕ)
        → hand_has (y.mission u) s ≡ hand_has (k.mission u) s
    hands_outside s away u = ⊎_elim
        (λ (is : u ≡ t). ap (λ x. hand_has (y.mission x) s) is
        ∙ ap (λ (o : Option centre.Mission). hand_has o s) begun_there ∙ away
        ∙ sym (ap (λ x. hand_has (k.mission x) s) is ∙ ap (λ (o : Option centre.Mission). hand_has o s) no_mission))
        (λ (apart : u ≢ t). ap (λ (o : Option centre.Mission). hand_has o s) (other_missions u apart))
        (cases_eq u t)

    marks : (s d : ℕ) → is_home line d s ≡ true → (b : Bool) → within (covered line place) s ≡ b
        → MarkAfter line w new s d (v.mark s) (if b then line_centre.Given t else v.mark s)
    marks s d home true is = enters_here line w c nothing_came y (λ e. []) new s d
        (act line w v sound sees c at y (λ e. []) (silent c)) home t (v.mark s) (free_is s is).0
        (ap (is_used_for t) (ap (λ (f : ℕ → centre.Entry). f s) book ∙ used_now s is) ∙ itself t)
        (omega (
          arith,
          ap (λ (o : Option centre.Mission). one_if (hand_has o s)) begun_there,
          one_if_true (within (covered line place) s) is,
        ))
    marks s d home false is = mark_same line w v sound sees c at y (λ e. []) (silent c) s d (v.mark s)
        (ap (λ (f : ℕ → centre.Entry). f s) book ∙ as_before s is) (hands_outside s is)

    missions_after : (u : ℕ) → MissionAfter line w c nothing_came y (λ d. []) u (v.mission u) (after.mission u)
    missions_after u = ⊎_elim
        (λ (is : u ≡ t). subst (λ x. MissionAfter line w c nothing_came y (λ d. []) x (v.mission x) (after.mission x))
        (sym is)
        (is_here (begun line place) (put_there v.mission t (Some (begun_at c place))) begun_there
        (none_here line w c nothing_came y (λ d. []) new t sound (act line w v sound sees c at y (λ d. []) (silent c))
        (omega (arith, one_if_true (k.has_right t) right))).0
        ((silent c).missions t)))
        (λ (apart : u ≢ t). subst (MissionAfter line w c nothing_came y (λ d. []) u (v.mission u))
        (sym (put_other v.mission t u (Some (begun_at c place)) apart))
        (mission_same line w v sound sees c at y (λ d. []) (silent c) u
        (ap (option_map (seen c)) (other_missions u apart))))
        (cases_eq u t)

    pub shows_begin : Shows line new after
    shows_begin = shows_after line w c nothing_came y (λ d. []) new v after sound sees at
        (act line w v sound sees c at y (λ d. []) (silent c)) (record {
          phase = part_stays Phase c v.phase y.phase (λ u. sees.phase u c ∙ ap (λ (f : ℕ → Phase). f u) (sym phase));
          heard = part_changes (Option ℕ) c t (Some t_train) v.heard k.heard y.heard (λ u. sees.heard u c)
              (λ u. ap (λ (f : ℕ → Option ℕ). f u) heard);
          said = part_changes ℕ c t (v.said t c + 1) v.said k.said y.said (λ u. sees.said u c)
              (λ u. ap (λ (f : ℕ → ℕ). f u) said ∙ ap (λ n. put k.said t (n + 1) u) (sym (sees.said t c)));
          wait = part_stays (Option Place) c v.wait y.wait (λ u. sees.wait u c
              ∙ ap (λ (f : ℕ → Option Place). f u) (sym wait));
          wish = λ s home. sees.wish s c home ∙ ap (λ (f : ℕ → Bool). f s) (sym wish);
          other_wish = λ s away. refl;
          mark = λ s d home. marks s d home (within (covered line place) s) refl;
          no_section = λ s none. ap (λ b. if b then line_centre.Given t else v.mark s) (none_covered s none);
          mission = missions_after;
        })

  -- ## A start that waits

  module _ (y : Centre) (frames : ℕ → List Body) (sends : SendsNothing c frames) (book : y.book ≡ put_to_use)
      (wish : y.wish ≡ k.wish) (phase : y.phase ≡ k.phase)
      (heard : y.heard ≡ put k.heard t (Some t_train)) (said : y.said ≡ k.said)
      (wait : y.wait ≡ put k.wait t (Some place)) (mission : y.mission ≡ k.mission) where
    abbrev waiting : Flow
    waiting = acted w c y frames

    abbrev waited : LineState
    waited = waits line t c place (record v { heard = put_pair v.heard t c (Some t_train) })

    hands_stay : (s u : ℕ) → hand_has (y.mission u) s ≡ hand_has (k.mission u) s
    hands_stay s u = ap (λ (f : ℕ → Option centre.Mission). hand_has (f u) s) mission

    -- a released section is in no hand
    no_hand : (s d : ℕ) → is_home line d s ≡ true → within (covered line place) s ≡ true → is_in_hand line w s t ≡ false
    no_hand s d home is = by_hand (is_in_hand line w s t) refl
      where
        same : (w.at d).book s ≡ k.book s
        same = ap (λ x. (w.at x).book s) (one_home line d c s home (free_is s is).0)

        not_open : (e : centre.Entry) → is_open e ≡ true → is_used_for t e ≡ true → ⊥
        not_open centre.Shut a b = let wrong : false ≡ true = a in cc
        not_open centre.Open a b = let wrong : false ≡ true = b in cc
        not_open (centre.Taken u) a b = let wrong : false ≡ true = a in cc
        not_open (centre.Out u) a b = let wrong : false ≡ true = a in cc

        by_hand : (b : Bool) → is_in_hand line w s t ≡ b → is_in_hand line w s t ≡ false
        by_hand true has =
            absurd (not_open (k.book s) (free_is s is).1 (ap (is_used_for t) (sym same)
            ∙ in_use line w t s d sound has home))
        by_hand false has = has

    waiting_marks : (s d : ℕ) → is_home line d s ≡ true → (b : Bool) → within (covered line place) s ≡ b
        → MarkAfter line w waiting s d (v.mark s) (if b then line_centre.Kept t else v.mark s)
    waiting_marks s d home true is = is_kept t refl
        (ap (is_used_for t) (entry_here line w c nothing_came y frames waiting s d
        (act line w v sound sees c at y frames sends) home (free_is s is).0
        ∙ ap (λ (f : ℕ → centre.Entry). f s) book ∙ used_now s is) ∙ itself t)
        (unchanged line w c nothing_came y frames waiting t s (act line w v sound sees c at y frames sends)
        (hands_stay s t) refl (sends.hands t s) ∙ no_hand s d home is)
    waiting_marks s d home false is = mark_same line w v sound sees c at y frames sends s d (v.mark s)
        (ap (λ (f : ℕ → centre.Entry). f s) book ∙ as_before s is) (hands_stay s)

    pub shows_wait : Shows line waiting waited
    shows_wait = shows_after line w c nothing_came y frames waiting v waited sound sees at
        (act line w v sound sees c at y frames sends) (record {
          phase = part_stays Phase c v.phase y.phase (λ u. sees.phase u c ∙ ap (λ (f : ℕ → Phase). f u) (sym phase));
          heard = part_changes (Option ℕ) c t (Some t_train) v.heard k.heard y.heard (λ u. sees.heard u c)
              (λ u. ap (λ (f : ℕ → Option ℕ). f u) heard);
          said = part_stays ℕ c v.said y.said (λ u. sees.said u c ∙ ap (λ (f : ℕ → ℕ). f u) (sym said));
          wait = part_changes (Option Place) c t (Some place) v.wait k.wait y.wait (λ u. sees.wait u c)
              (λ u. ap (λ (f : ℕ → Option Place). f u) wait);
          wish = λ s home. sees.wish s c home ∙ ap (λ (f : ℕ → Bool). f s) (sym wish);
          other_wish = λ s away. refl;
          mark = λ s d home. waiting_marks s d home (within (covered line place) s) refl;
          no_section = λ s none. ap (λ b. if b then line_centre.Kept t else v.mark s) (none_covered s none);
          mission = λ u. mission_same line w v sound sees c at y frames sends u
              (ap (λ (f : ℕ → Option centre.Mission). option_map (seen c) (f u)) mission);
        })

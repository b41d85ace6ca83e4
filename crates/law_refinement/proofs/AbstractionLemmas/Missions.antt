-- The mission of a train after an act.
use Rattle.std.proofs.Common.{⊎_elim, ◌+◌, ◌<◌, ◌==◌, ◌∙◌, ◌≡◌, ◌≢◌, ◌≤◌, ap, arith, Bool, false, inl, inr, is_some}
use Rattle.std.proofs.Common.{List, ltb-true, None, Option, option_map, refl, Some, sym, true, ℕ}
use Rattle.std.proofs.lemmas.Bool.{cases_eq}
use Rattle.std.specs.Prelude.{Contains}
use Rattle.law_base.proofs.CountingLemmas.Places.{held_carried_le_placed, two_held_le_placed}
use Rattle.law_base.proofs.CountingLemmas.Sums.{one_if_true}
use Rattle.law_base.specs.Counting.Network.{way}
use Rattle.law_base.specs.Counting.Resource.{placed, Resource, sent_by}
use Rattle.law_base.specs.Counting.Sums.{one_if}
use Rattle.law_invariants.proofs.FlowLemmas.Lists.{carried_contains, itself}
use Rattle.law_invariants.proofs.FlowLemmas.Neighbours.{one_registrar}
use Rattle.law_invariants.proofs.FlowLemmas.Seats.{few_missions, nothing_sent}
use Rattle.law_invariants.specs.Flow.Counts.{missions}
use Rattle.law_invariants.specs.Flow.Flow.{centre_count, Flow}
use Rattle.law_invariants.specs.Flow.Shows.{parted}
use Rattle.law_invariants.specs.Flow.Sound.{IsFlowSound}
use Rattle.law_refinement.proofs.AbstractionLemmas.Hands.{sends_none}
use Rattle.law_refinement.proofs.AbstractionLemmas.Marks.{rights_split}
use Rattle.law_refinement.specs.Abstraction.Acts.{IsAct, IsMissionHere, rights_alone, SendsNone}
use Rattle.law_refinement.specs.Abstraction.After.{ended, handed_over, is_here, MissionAfter, ShowsMission, stays}
use Rattle.rbc_spec.proofs.Lists.{put_here, put_other}
use Rattle.rbc_spec.specs.Centre as centre
use Rattle.rbc_spec.specs.Centre.{Centre}
use Rattle.rbc_spec.specs.Frame.{Body, Yield, yielded_place}
use Rattle.rbc_spec.specs.Line.{is_centre, Line}
use Rattle.rbc_spec.specs.LineCentre.{LineMission}
use Rattle.rbc_spec.specs.Place.{Place}
use Rattle.rbc_spec.specs.ReadOff.{seen}
use Rattle.rbc_spec.specs.SectionRuns.{SectionRun}

-- ## The place of the mission

some_seen : (c : ℕ) (o : Option centre.Mission) → is_some (option_map (seen c) o) ≡ is_some o
some_seen c None = refl
some_seen c (Some m) = refl

module _ (line : Line) (w : Flow) (c : ℕ) (came : Resource Centre Body → ℕ) (y : Centre)
    (frames : ℕ → List Body) (new : Flow) (t : ℕ)
    (sound : IsFlowSound line w) (act : IsAct line w c came y frames new) where
  few : placed (missions t) (centre_count line) w ≤ 1
  few = few_missions line w sound t

  pub supervised : (m : centre.Mission) → (w.at c).mission t ≡ Some m → IsMissionHere line w c came t
  supervised m is = omega (arith, act.had (missions t), few, ap (λ (o : Option centre.Mission). one_if (is_some o)) is)

  pub came_here : 0 < came (missions t) → IsMissionHere line w c came t × ((w.at c).mission t ≡ None)
  came_here comes = (
    omega (arith, act.had (missions t), few, comes),
    by_mission ((w.at c).mission t) (omega (arith, act.had (missions t), few, comes)),
  )
    where
      by_mission : (o : Option centre.Mission) → one_if (is_some o) ≡ 0 → o ≡ None
      by_mission None none = refl
      by_mission (Some m) none = absurd (let no : ⊥ = omega (arith, none) in no)

  pub none_here : 0 < (rights_alone t).held c (w.at c) + came (rights_alone t) → IsMissionHere line w c came t
      × (placed (missions t) (centre_count line) w ≡ 0)
  none_here alone = (omega (arith, act.had (missions t), nowhere), nowhere)
    where
      nowhere : placed (missions t) (centre_count line) w ≡ 0
      nowhere =
          omega (
            arith,
            alone,
            act.had (rights_alone t),
            rights_split line t (centre_count line) w,
            (sound.rights t).law,
            one_registrar line t (centre_count line) w,
          )

  -- ## After the act

  module _ (at : is_centre line c ≡ true) (old mission : Option LineMission) (before : ShowsMission line w t old) where
    below : c < centre_count line
    below = ltb-true c (centre_count line) at

    here_now : (new.at c).mission t ≡ y.mission t
    here_now = ap (λ (g : ℕ → Centre). (g c).mission t) act.at
        ∙ ap (λ (z : Centre). z.mission t) (put_here w.at c c y refl)

    there_now : (d : ℕ) → d ≢ c → (new.at d).mission t ≡ (w.at d).mission t
    there_now d apart = ap (λ (g : ℕ → Centre). (g d).mission t) act.at
        ∙ ap (λ (z : Centre). z.mission t) (put_other w.at c d y apart)

    -- a Yield of the train among the sent frames is counted
    not_sent : SendsNone (missions t) c frames
        → (j number heard : ℕ) (has_data is_ended : Bool) (place : Place) (hand : SectionRun)
        → Contains (frames j) (Yield number t heard has_data is_ended (yielded_place place) hand) → ⊥
    not_sent none j number heard has_data is_ended place hand is =
        omega (arith, carried_contains (missions t) c j (frames j) _ is, none j, one_if_true (t == t) (itself t))

    -- if centre u has the mission, and there is only one, no other centre and no frame on the way has one
    module _ (u : Flow) (one : placed (missions t) (centre_count line) u ≤ 1)
        (has : is_some ((u.at c).mission t) ≡ true) where
      no_other : (d : ℕ) (m : centre.Mission) → d ≢ c → is_centre line d ≡ true → (u.at d).mission t ≡ Some m → ⊥
      no_other d m apart there is = omega (
        arith,
        two_held_le_placed (missions t) (centre_count line) u d c (ltb-true d (centre_count line) there) below apart,
        one,
        one_if_true _ has,
        ap (λ (o : Option centre.Mission). one_if (is_some o)) is,
      )

      no_yield : (i j number heard : ℕ) (has_data is_ended : Bool) (place : Place) (hand : SectionRun)
          → is_centre line i ≡ true → is_centre line j ≡ true
          → Contains (way u i j) (Yield number t heard has_data is_ended (yielded_place place) hand) → ⊥
      no_yield i j number heard has_data is_ended place hand from to is = omega (
        arith,
        held_carried_le_placed (missions t) (centre_count line) u c i j below (ltb-true i (centre_count line) from)
            (ltb-true j (centre_count line) to),
        carried_contains (missions t) i j (way u i j) _ is,
        one_if_true (t == t) (itself t),
        one,
        one_if_true _ has,
      )

    -- a mission or a Yield that was there is of centres of the line
    of_line : (d : ℕ) (m : centre.Mission) → (w.at d).mission t ≡ Some m → is_centre line d ≡ true
    of_line d m is = by_centre (is_centre line d) refl
      where
        by_centre : (b : Bool) → is_centre line d ≡ b → is_centre line d ≡ true
        by_centre true there = there
        by_centre false there =
            absurd (let wrong : ◌≡◌ {A = Option centre.Mission} None (Some m) = sym (sound.no_mission d t there)
            ∙ is in cc)

    on_line : (i j : ℕ) (f : Body) → Contains (way w i j) f → (is_centre line i ≡ true) × (is_centre line j ≡ true)
    on_line i j f is = by_centres (is_centre line i) (is_centre line j) refl refl
      where
        by_centres : (a b : Bool) → is_centre line i ≡ a → is_centre line j ≡ b → (is_centre line i ≡ true)
            × (is_centre line j ≡ true)
        by_centres true true from to = (from, to)
        by_centres false b from to = absurd (nothing_sent w i j (sound.no_sent i j (inl from)) f is)
        by_centres true false from to = absurd (nothing_sent w i j (sound.no_sent i j (inr to)) f is)

    -- one mission after the act for one before
    shown_stays : mission ≡ old → option_map (seen c) (y.mission t) ≡ option_map (seen c) ((w.at c).mission t)
        → came (missions t) ≡ 0 → SendsNone (missions t) c frames
        → ShowsMission line new t mission
    shown_stays as_old same none sends = record {
      at_centre = λ d m is. as_old ∙ ⊎_elim
          (λ (here : d ≡ c). old_seen m ((w.at c).mission t) refl
          (sym (ap (option_map (seen c)) (sym here_now ∙ ap (λ x. (new.at x).mission t) (sym here) ∙ is)) ∙ same)
          ∙ ap (λ x. Some (seen x m)) (sym here))
          (λ (apart : d ≢ c). before.at_centre d m (sym (there_now d apart) ∙ is))
          (cases_eq d c);
      on_way = λ i j number heard has_data is_ended place hand is. ⊎_elim
          (λ (was : Contains (way w i j) (Yield number t heard has_data is_ended (yielded_place place) hand)). as_old
          ∙ before.on_way i j number heard has_data is_ended place hand was)
          (λ (sent : (i ≡ c) × Contains (frames j) (Yield number t heard has_data is_ended (yielded_place place) hand)).
          absurd (not_sent sends j number heard has_data is_ended place hand sent.1))
          (act.on_way i j (Yield number t heard has_data is_ended (yielded_place place) hand) is);
      none = λ nothing. as_old ∙ before.none (omega (
        arith,
        nothing,
        none,
        act.changes (missions t),
        sends_none (missions t) (centre_count line) c frames sends,
        ap one_if (sym (some_seen c (y.mission t)) ∙ ap is_some same ∙ some_seen c ((w.at c).mission t)),
      ));
    }
      where
        old_seen : (m : centre.Mission) (o : Option centre.Mission) → (w.at c).mission t ≡ o
            → ◌≡◌ {A = Option LineMission} (Some (seen c m)) (option_map (seen c) o) → old ≡ Some (seen c m)
        old_seen m None is e = cc
        old_seen m (Some x) is e = before.at_centre c x is ∙ sym e

    -- the centre has it, and nobody else
    shown_here : (m : centre.Mission) → mission ≡ Some (seen c m) → y.mission t ≡ Some m → IsMissionHere line w c came t
        → SendsNone (missions t) c frames → ShowsMission line new t mission
    shown_here m is_seen now alone sends = record {
      at_centre = λ d x is. ⊎_elim
          (λ (here : d ≡ c). is_seen ∙ seen_so x d here (sym now ∙ sym here_now
          ∙ ap (λ e. (new.at e).mission t) (sym here) ∙ is))
          (λ (apart : d ≢ c). absurd (no_other new one has d x apart (of_line d x (sym (there_now d apart) ∙ is)) is))
          (cases_eq d c);
      on_way = λ i j number heard has_data is_ended place hand is. ⊎_elim
          (λ (was : Contains (way w i j) (Yield number t heard has_data is_ended (yielded_place place) hand)).
          let ends = on_line i j _ was in
          absurd (no_yield new one has i j number heard has_data is_ended place hand ends.0 ends.1 is))
          (λ (sent : (i ≡ c) × Contains (frames j) (Yield number t heard has_data is_ended (yielded_place place) hand)).
          absurd (not_sent sends j number heard has_data is_ended place hand sent.1))
          (act.on_way i j (Yield number t heard has_data is_ended (yielded_place place) hand) is);
      none = λ nothing. absurd (let no : ⊥ = omega (arith, nothing, total) in no);
    }
      where
        total : placed (missions t) (centre_count line) new ≡ 1
        total = omega (
          arith,
          act.changes (missions t),
          alone,
          sends_none (missions t) (centre_count line) c frames sends,
          ap (λ (o : Option centre.Mission). one_if (is_some o)) now,
        )

        one : placed (missions t) (centre_count line) new ≤ 1
        one = omega (arith, total)

        has : is_some ((new.at c).mission t) ≡ true
        has = ap is_some (here_now ∙ now)

        seen_so : (x : centre.Mission) (d : ℕ) → d ≡ c → ◌≡◌ {A = Option centre.Mission} (Some m) (Some x)
            → ◌≡◌ {A = Option LineMission} (Some (seen c m)) (Some (seen d x))
        seen_so x d here same = ap (option_map (seen c)) same ∙ ap (λ e. Some (seen e x)) (sym here)

    -- the centre had it, and has it no more
    module _ (m : centre.Mission) (had : (w.at c).mission t ≡ Some m) (gone : y.mission t ≡ None) where
      nobody : (d : ℕ) (x : centre.Mission) → (new.at d).mission t ≡ Some x → ⊥
      nobody d x is = ⊎_elim
          (λ (here : d ≡ c). let wrong : ◌≡◌ {A = Option centre.Mission} None (Some x) = sym gone ∙ sym here_now
          ∙ ap (λ e. (new.at e).mission t) (sym here) ∙ is in cc)
          (λ (apart : d ≢ c). let was : (w.at d).mission t ≡ Some x = sym (there_now d apart) ∙ is in
          no_other w few (ap is_some had) d x apart (of_line d x was) was)
          (cases_eq d c)

      none_before : (i j number heard : ℕ) (has_data is_ended : Bool) (place : Place) (hand : SectionRun)
          → Contains (way w i j) (Yield number t heard has_data is_ended (yielded_place place) hand) → ⊥
      none_before i j number heard has_data is_ended place hand was =
          let ends = on_line i j _ was in
          no_yield w few (ap is_some had) i j number heard has_data is_ended place hand ends.0 ends.1 was

      shown_handed : 0 < sent_by (missions t) (centre_count line) c frames
          → ((b number heard : ℕ) (has_data is_ended : Bool) (place : Place) (hand : SectionRun)
          → Contains (frames b) (Yield number t heard has_data is_ended (yielded_place place) hand)
          → mission ≡ Some (parted heard has_data is_ended place))
          → ShowsMission line new t mission
      shown_handed sends each = record {
        at_centre = λ d x is. absurd (nobody d x is);
        on_way = λ i j number heard has_data is_ended place hand is. ⊎_elim
            (λ (was : Contains (way w i j) (Yield number t heard has_data is_ended (yielded_place place) hand)).
            absurd (none_before i j number heard has_data is_ended place hand was))
            (λ (sent : (i ≡ c)
            × Contains (frames j) (Yield number t heard has_data is_ended (yielded_place place) hand)).
            each j number heard has_data is_ended place hand sent.1)
            (act.on_way i j (Yield number t heard has_data is_ended (yielded_place place) hand) is);
        none = λ nothing.
            absurd (let no : ⊥ = omega (arith, nothing, sends, act.changes (missions t), act.had (missions t)) in no);
      }

      shown_ended : mission ≡ None → SendsNone (missions t) c frames → ShowsMission line new t mission
      shown_ended is_none sends = record {
        at_centre = λ d x is. absurd (nobody d x is);
        on_way = λ i j number heard has_data is_ended place hand is. ⊎_elim
            (λ (was : Contains (way w i j) (Yield number t heard has_data is_ended (yielded_place place) hand)).
            absurd (none_before i j number heard has_data is_ended place hand was))
            (λ (sent : (i ≡ c)
            × Contains (frames j) (Yield number t heard has_data is_ended (yielded_place place) hand)).
            absurd (not_sent sends j number heard has_data is_ended place hand sent.1))
            (act.on_way i j (Yield number t heard has_data is_ended (yielded_place place) hand) is);
        none = λ nothing. is_none;
      }

    pub mission_shown : MissionAfter line w c came y frames t old mission → ShowsMission line new t mission
    mission_shown (stays as_old same none sends) = shown_stays as_old same none sends
    mission_shown (is_here m is_seen now alone sends) = shown_here m is_seen now alone sends
    mission_shown (handed_over m had gone sends each) = shown_handed m had gone sends each
    mission_shown (ended m is_none had gone sends) = shown_ended m had gone is_none sends

-- The right arrives at the centre that asked for it, and a start of mission waits there. The start becomes a mission,
-- and all stays sound.
use Rattle.std.proofs.Common.{[], ⊎_elim, ◌+◌, ◌<◌, ◌==◌, ◌∙◌, ◌≡◌, ◌≢◌, ◌≤◌, ◌⊎◌, ap, arith, Bool, eq-eqb, false, inl}
use Rattle.std.proofs.Common.{inr, is_some, None, Option, refl, Some, subst, sym, true, ℕ}
use Rattle.std.proofs.lemmas.Bool.{cases_eq, cond-true, ltb-true, ne_eqb}
use Rattle.std.proofs.lemmas.List.Elements.{All-nil}
use Rattle.law_base.proofs.CountingLemmas.Places.{head_only}
use Rattle.law_base.proofs.CountingLemmas.Resource.{carried_more, sent_none}
use Rattle.law_base.proofs.CountingLemmas.Sums.{cases_link, links_zero, one_if_some, one_if_true, put_other, put_same}
use Rattle.law_base.proofs.CountingLemmas.Sums.{sum_zero}
use Rattle.law_base.proofs.LocalLemmas.Missions.{none_within}
use Rattle.law_base.specs.Counting.Network.{acted, TakesHead, took, way}
use Rattle.law_base.specs.Counting.Resource.{carried, placed}
use Rattle.law_base.specs.Counting.Sums.{one_if, put}
use Rattle.law_base.specs.Local.Local.{hand_has}
use Rattle.law_invariants.proofs.FlowLemmas.Kept.{delivered_neutral}
use Rattle.law_invariants.proofs.FlowLemmas.Lists.{itself, missions_le}
use Rattle.law_invariants.proofs.FlowLemmas.Neighbours.{begun_ends, one_registrar}
use Rattle.law_invariants.specs.Flow.Counts.{missions, pool_has, rights, tokens, wait_has}
use Rattle.law_invariants.specs.Flow.Flow.{centre_count, Flow}
use Rattle.law_invariants.specs.Flow.Keeping.{came_with, IsApart, IsFairAct, IsNeutral}
use Rattle.law_invariants.specs.Flow.Pairs.{handing_to}
use Rattle.law_invariants.specs.Flow.Sound.{IsBodySound, IsCentreSound, IsFlowSound, IsMissionAt}
use Rattle.rbc_spec.specs.Acts.{begun}
use Rattle.rbc_spec.specs.Centre as centre
use Rattle.rbc_spec.specs.Centre.{Centre, is_taken_for}
use Rattle.rbc_spec.specs.Frame.{GiveRight}
use Rattle.rbc_spec.specs.Line.{is_centre, is_home, Line, train_number}
use Rattle.rbc_spec.specs.Place.{covered, Place}
use Rattle.rbc_spec.specs.SectionRuns.{within}

module _ (line : Line) (w : Flow) (sound : IsFlowSound line w) (a c t number : ℕ) (place : Place)
    (from : is_centre line a ≡ true) (to : is_centre line c ≡ true)
    (takes : TakesHead w a c (GiveRight t)) (waits : (w.at c).wait t ≡ Some place) where
  small : a < centre_count line
  small = ltb-true a (centre_count line) from

  below : c < centre_count line
  below = ltb-true c (centre_count line) to

  few : placed (rights line t) (centre_count line) w ≤ 1
  few = omega (arith, (sound.rights t).law, one_registrar line t (centre_count line) w)

  abbrev pub k : Centre
  k = w.at c

  -- the state of the centre after it
  abbrev pub y : Centre
  y = record k {
    wait = put k.wait t None;
    mission = put k.mission t (Some (begun line place));
    has_asked = put k.has_asked t false;
    said = put k.said t (k.said t + 1);
    taken = put k.taken a number;
  }

  abbrev pub new : Flow
  new = acted (took w a c) c y (λ d. [])

  -- ## Nobody has the train

  pub no_right : (d : ℕ) → d < centre_count line → one_if ((w.at d).has_right t)
      + one_if (is_some ((w.at d).mission t)) ≡ 0
  no_right d at =
      (head_only (rights line t) (centre_count line) w a c (GiveRight t) few small below takes
      (omega (arith, one_if_true (t == t) (itself t)))).0.centres d at

  pub none_on_way : (i j : ℕ) → i < centre_count line → j < centre_count line → carried (missions t) i j (way w i j) ≡ 0
  none_on_way i j from at =
      let head = head_only (rights line t) (centre_count line) w a c (GiveRight t) few small below takes
      (omega (arith, one_if_true (t == t) (itself t))) in
      ⊎_elim
      (λ (here : (i ≡ a) × (j ≡ c)). subst (λ x. carried (missions t) x j (way w x j) ≡ 0) (sym here.0)
      (subst (λ x. carried (missions t) a x (way w a x) ≡ 0) (sym here.1)
      (omega (
        arith,
        ap (carried (missions t) a c) takes.head,
        carried_more (missions t) a c (GiveRight t) (way (took w a c) a c),
        missions_le line t a c (way (took w a c) a c),
        head.2,
      ))))
      (λ (apart : i ≡ a → j ≢ c). omega (arith, missions_le line t i j (way w i j), head.0.others i j from at apart))
      (cases_link i j a c)

  pub no_missions : placed (missions t) (centre_count line) w ≡ 0
  unfolding placed
  no_missions = omega (
    arith,
    sum_zero (centre_count line) (λ d. one_if (is_some ((w.at d).mission t))) (λ d at. omega (arith, no_right d at)),
    links_zero (centre_count line) (λ i j. carried (missions t) i j (way w i j)) none_on_way,
  )

  pub none_here : k.mission t ≡ None
  none_here = by_mission (k.mission t) (omega (arith, no_right c below))
    where
      by_mission : (o : Option centre.Mission) → one_if (is_some o) ≡ 0 → o ≡ None
      by_mission None h = refl
      by_mission (Some m) h = absurd (let no : ⊥ = omega arith in no)

  pub taken_here : (s : ℕ) → within (covered line place) s ≡ true → is_taken_for t (k.book s) ≡ true
  taken_here s is =
      let has : wait_has line (k.wait t) s ≡ true = ap (λ o. wait_has line o s) waits ∙ is in
      let home = (sound.centres c to).wait_home t s has in
      one_if_some (is_taken_for t (k.book s)) (omega (arith, (sound.centres c to).claims s t home, one_if_true _ has))

  pub home_here : (s : ℕ) → within (covered line place) s ≡ true → is_home line c s ≡ true
  home_here s is = (sound.centres c to).wait_home t s (ap (λ o. wait_has line o s) waits ∙ is)

  -- ## All of it is kept

  hand_put : (u s : ℕ) → u ≢ t → hand_has (y.mission u) s ≡ hand_has (k.mission u) s
  hand_put u s other = ap (λ (o : Option centre.Mission). hand_has o s)
      (put_other k.mission t (Some (begun line place)) u other)

  hand_now : (s : ℕ) → hand_has (y.mission t) s ≡ within (covered line place) s
  hand_now s = ap (λ (o : Option centre.Mission). hand_has o s) (put_same k.mission t (Some (begun line place)))

  hand_then : (s : ℕ) → hand_has (k.mission t) s ≡ false
  hand_then s = ap (λ (o : Option centre.Mission). hand_has o s) none_here

  wait_put : (u s : ℕ) → u ≢ t → wait_has line (y.wait u) s ≡ wait_has line (k.wait u) s
  wait_put u s other = ap (λ (o : Option Place). wait_has line o s) (put_other k.wait t None u other)

  wait_now : (s : ℕ) → wait_has line (y.wait t) s ≡ false
  wait_now s = ap (λ (o : Option Place). wait_has line o s) (put_same k.wait t None)

  wait_then : (s : ℕ) → wait_has line (k.wait t) s ≡ within (covered line place) s
  wait_then s = ap (λ (o : Option Place). wait_has line o s) waits

  pool_put : (u s : ℕ) → u ≢ t → pool_has (y.mission u) s ≡ pool_has (k.mission u) s
  pool_put u s other = ap (λ (o : Option centre.Mission). pool_has o s)
      (put_other k.mission t (Some (begun line place)) u other)

  nothing_within : (s : ℕ) → within (begun line place).pool s ≡ false
  nothing_within s = by_within (within (begun line place).pool s) refl
    where
      by_within : (b : Bool) → within (begun line place).pool s ≡ b → b ≡ false
      by_within true is = absurd (none_within s is)
      by_within false is = refl

  pool_now : (s : ℕ) → pool_has (y.mission t) s ≡ false
  pool_now s = ap (λ (o : Option centre.Mission). pool_has o s) (put_same k.mission t (Some (begun line place)))
      ∙ nothing_within s

  -- a property of train u, shown for t and for all other trains
  by_train : (P : ℕ → Type 0) (u : ℕ) → P t → (u ≢ t → P u) → P u
  by_train P u here other = ⊎_elim (λ (e : u ≡ t). subst P (sym e) here) other (cases_eq u t)

  waits_so : (u : ℕ) (p : Place) → y.wait u ≡ Some p → k.wait u ≡ Some p
  waits_so u p is =
      ⊎_elim (λ (here : u ≡ t).
      absurd (let wrong : None ≡ Some p = sym (cond-true (u == t) None (k.wait u) (eq-eqb u t here)) ∙ is in cc))
      (λ (other : u ≢ t). sym (put_other k.wait t None u other) ∙ is) (cases_eq u t)

  begun_sound : IsMissionAt line c y (begun line place)
  begun_sound =
      record {
        hand = (sound.centres c to).wait_fits t place waits;
        pool_follows = λ some. cc;
        pool_away = λ s has. absurd (none_within s has);
        pool_on = λ s has. absurd (none_within s has);
        pool_next =
            λ s d next has. absurd (none_within s has);
        handing_to = λ h is. cc;
        handing_number = λ h is. cc;
        hand_ends =
            λ s d n next beyond come has. begun_ends line c d n s place next
            (λ e in_hand. (sound.centres c to).wait_home t e (wait_then e ∙ in_hand)) come;
      }

  at_centre : (m : centre.Mission) → IsMissionAt line c k m → IsMissionAt line c y m
  at_centre m is =
      record {
        hand = is.hand;
        pool_follows = is.pool_follows;
        pool_away = is.pool_away;
        pool_on = is.pool_on;
        pool_next = is.pool_next;
        handing_to = is.handing_to;
        handing_number =
            is.handing_number;
        hand_ends = is.hand_ends;
      }

  is_mission : (u : ℕ) (m : centre.Mission) → y.mission u ≡ Some m → ((u ≡ t) × (begun line place ≡ m))
      ⊎ (k.mission u ≡ Some m)
  is_mission u m is = ⊎_elim
      (λ (here : u ≡ t).
      inl (
        here,
        some_is (begun line place) m
            (sym (cond-true (u == t) (Some (begun line place)) (k.mission u) (eq-eqb u t here)) ∙ is),
      ))
      (λ (other : u ≢ t). inr (sym (put_other k.mission t (Some (begun line place)) u other) ∙ is)) (cases_eq u t)
    where
      some_is : (x z : centre.Mission) → ◌≡◌ {A = Option centre.Mission} (Some x) (Some z) → x ≡ z
      some_is x z e = cc

  centre_sound : IsCentreSound line c y
  centre_sound = let old = sound.centres c to in record {
    claims = λ s u home. by_train (λ x. one_if (is_taken_for x (k.book s)) ≡ one_if (wait_has line (y.wait x) s)
        + one_if (hand_has (y.mission x) s)) u
        (omega (
          arith,
          old.claims s t home,
          ap one_if (hand_now s),
          ap one_if (hand_then s),
          ap one_if (wait_now s),
          ap one_if (wait_then s),
        ))
        (λ other. omega (arith, old.claims s u home, ap one_if (hand_put u s other), ap one_if (wait_put u s other)));
    foreign = old.foreign;
    asks = old.asks;
    unwished = old.unwished;
    wait_home = λ u s has. by_train (λ x. wait_has line (y.wait x) s ≡ true → is_home line c s ≡ true) u
        (λ now. absurd (let wrong : false ≡ true = sym (wait_now s) ∙ now in cc))
        (λ other now. old.wait_home u s (sym (wait_put u s other) ∙ now)) has;
    wait_fits = λ u p is. old.wait_fits u p (waits_so u p is);
    wait_known = λ u p is. old.wait_known u p (waits_so u p is);
    mission = λ u m is. ⊎_elim (λ (here : (u ≡ t) × (begun line place ≡ m)).
        subst (IsMissionAt line c y) here.1 begun_sound)
        (λ (was : k.mission u ≡ Some m). at_centre m (old.mission u m was)) (is_mission u m is);
    mission_known =
        λ u m is. ⊎_elim (λ (here : (u ≡ t) × (begun line place ≡ m)).
        subst (λ x. (is_some (train_number line x) ≡ true) × (is_some (k.heard x) ≡ true)) (sym here.0)
        (old.wait_known t place waits))
        (λ (was : k.mission u ≡ Some m). old.mission_known u m was) (is_mission u m is);
  }

  neutral : IsNeutral (GiveRight t)
  neutral = record { follows = λ u m. refl; announces = λ u h. refl; takes_over = λ u h. refl; yields = λ u h. refl }

  apart_so : IsApart k y
  apart_so = record {
    expects = λ i u. refl;
    announced = refl;
    handing = λ b u. by_train (λ x. handing_to b (y.mission x) ≡ handing_to b (k.mission x)) u
        (ap (handing_to b) (put_same k.mission t (Some (begun line place))) ∙ sym (ap (handing_to b) none_here))
        (λ other. ap (handing_to b) (put_other k.mission t (Some (begun line place)) u other));
  }

  pub keeps : IsFlowSound line new
  keeps = delivered_neutral line w sound c to y (λ d. [])
      (record { centre = centre_sound; inside = λ d out_of. refl; bodies = λ d. All-nil (IsBodySound line c d) }) a
      (GiveRight t) takes from fair neutral (λ d. All-nil IsNeutral) apart_so
    where
      fair : IsFairAct line c k (came_with a c (GiveRight t)) y (λ d. [])
      fair = record {
        rights = λ u. record {
          law = omega (
            arith,
            sent_none (rights line u) (centre_count line) c,
            by_train (λ x. one_if (is_some (y.mission x)) ≡ one_if (is_some (k.mission x)) + one_if (t == x)) u
                (omega (
                  arith,
                  ap (λ (o : Option centre.Mission). one_if (is_some o))
                      (put_same k.mission t (Some (begun line place))),
                  ap (λ (o : Option centre.Mission). one_if (is_some o)) none_here,
                  one_if_true (t == t) (itself t),
                ))
                (λ other.
                omega (
                  arith,
                  ap (λ (o : Option centre.Mission). one_if (is_some o))
                      (put_other k.mission t (Some (begun line place)) u other),
                  ap one_if (ne_eqb t u (λ e. other (sym e))),
                )),
          );
        };
        tokens = λ u s. record {
          law = omega (
            arith,
            sent_none (tokens line u s) (centre_count line) c,
            by_train (λ x. (one_if (wait_has line (y.wait x) s) + one_if (hand_has (y.mission x) s))
                + one_if (pool_has (y.mission x) s)
                ≤ (one_if (wait_has line (k.wait x) s) + one_if (hand_has (k.mission x) s))
                + one_if (pool_has (k.mission x) s)) u
                (omega (
                  arith,
                  ap one_if (hand_now s),
                  ap one_if (wait_now s),
                  ap one_if (wait_then s),
                  ap one_if (pool_now s),
                ))
                (λ other.
                omega (
                  arith,
                  ap one_if (hand_put u s other),
                  ap one_if (wait_put u s other),
                  ap one_if (pool_put u s other),
                )),
          );
        };
      }

-- An act of a centre, sections that enter and leave hands, and the state after it.
use Rattle.std.proofs.Common.{⊎_elim, ◌+◌, ◌<◌, ◌==◌, ◌∙◌, ◌≡◌, ◌≢◌, ◌⊎◌, ap, arith, Bool, false, inl, inr, List}
use Rattle.std.proofs.Common.{ltb-true, Option, refl, subst, sym, true, ℕ}
use Rattle.std.proofs.lemmas.Bool.{and_parts, cases_eq}
use Rattle.std.proofs.lemmas.List.Elements.{Contains-append_cases}
use Rattle.std.specs.Prelude.{Contains}
use Rattle.law_base.proofs.CountingLemmas.Network.{counted_took, way_acted, way_acted_other, way_took_other}
use Rattle.law_base.proofs.CountingLemmas.Places.{held_carried_le_placed, held_le_placed}
use Rattle.law_base.proofs.CountingLemmas.Resource.{carried_more, placed_acted, placed_took}
use Rattle.law_base.proofs.CountingLemmas.Sums.{cases_link, one_if_some}
use Rattle.law_base.specs.Counting.Network.{acted, IsCounted, TakesHead, took, way}
use Rattle.law_base.specs.Counting.Resource.{carried, Resource}
use Rattle.law_base.specs.Counting.Sums.{one_if}
use Rattle.law_invariants.proofs.FlowLemmas.Lists.{one_home, some_cap}
use Rattle.law_invariants.specs.Flow.Counts.{hands, tokens}
use Rattle.law_invariants.specs.Flow.Flow.{centre_count, Flow}
use Rattle.law_invariants.specs.Flow.Keeping.{came_with, nothing_came}
use Rattle.law_invariants.specs.Flow.Shows.{Shows}
use Rattle.law_invariants.specs.Flow.Sound.{IsFlowSound}
use Rattle.law_refinement.proofs.AbstractionLemmas.Hands.{given, left, mark_shown, mark_stays, sends_none}
use Rattle.law_refinement.proofs.AbstractionLemmas.Hands.{state_elsewhere, state_here, was}
use Rattle.law_refinement.proofs.AbstractionLemmas.Marks.{in_use}
use Rattle.law_refinement.proofs.AbstractionLemmas.Missions.{mission_shown}
use Rattle.law_refinement.specs.Abstraction.Acts.{hand_after, hand_before, IsAct}
use Rattle.law_refinement.specs.Abstraction.After.{IsUnseen, MarkAfter, PartAfter, PartChanges, PartStays, ShowsAfter}
use Rattle.law_refinement.specs.Abstraction.After.{ShowsMission}
use Rattle.law_refinement.specs.Abstraction.After.MarkAfter.{is_given, is_kept, is_opened, is_shut}
use Rattle.law_refinement.specs.Abstraction.After.MissionAfter.{stays}
use Rattle.rbc_spec.proofs.Held.{contains_more}
use Rattle.rbc_spec.proofs.Lists.{put_here, put_keeps, put_other}
use Rattle.rbc_spec.specs.Centre as centre
use Rattle.rbc_spec.specs.Centre.{Centre, is_used_for, Phase}
use Rattle.rbc_spec.specs.Frame.{Body}
use Rattle.rbc_spec.specs.Line.{is_centre, is_home, Line}
use Rattle.rbc_spec.specs.LineCentre as line_centre
use Rattle.rbc_spec.specs.LineCentre.{LineState, Mark}
use Rattle.rbc_spec.specs.Maps.{has, put}
use Rattle.rbc_spec.specs.Place.{Place}

-- # An act of a centre by itself, and one at the head of a link, are acts of one centre.

-- a frame on the way after an act was on the way before, or the act sent it
sent_or_on_way : (w : Flow) (c : ℕ) (y : Centre) (frames : ℕ → List Body) → IsCounted w → (i j : ℕ) (f : Body)
    → Contains (way (acted w c y frames) i j) f → Contains (way w i j) f ⊎ ((i ≡ c) × Contains (frames j) f)
sent_or_on_way w c y frames counted i j f is = ⊎_elim
    (λ (here : i ≡ c). ⊎_elim
    (λ (old : Contains (way w c j) f). inl (subst (λ x. Contains (way w x j) f) (sym here) old))
    (λ (sent : Contains (frames j) f). inr (here, sent))
    (Contains-append_cases (way w c j) (frames j) f
    (subst (λ fs. Contains fs f) (way_acted w c y frames counted j)
    (subst (λ x. Contains (way (acted w c y frames) x j) f) here is))))
    (λ (apart : i ≢ c). inl (subst (λ fs. Contains fs f) (way_acted_other w c y frames i j apart) is))
    (cases_eq i c)

-- a frame on the way after the head was taken was on the way before
was_on_way : (w : Flow) (a c : ℕ) (g : Body) → TakesHead w a c g → (i j : ℕ) (f : Body)
    → Contains (way (took w a c) i j) f → Contains (way w i j) f
was_on_way w a c g takes i j f is = ⊎_elim
    (λ (here : (i ≡ a) × (j ≡ c)). subst (λ x. Contains (way w x j) f) (sym here.0)
    (subst (λ x. Contains (way w a x) f) (sym here.1)
    (subst (λ fs. Contains fs f) (sym takes.head) (contains_more g f (way (took w a c) a c)
    (subst (λ x. Contains (way (took w a c) a x) f) here.1
    (subst (λ x. Contains (way (took w a c) x j) f) here.0 is))))))
    (λ (apart : i ≡ a → j ≢ c). subst (λ fs. Contains fs f) (way_took_other w a c i j apart) is)
    (cases_link i j a c)

pub by_itself : (line : Line) (w : Flow) (c : ℕ) (y : Centre) (frames : ℕ → List Body)
    → IsCounted w → is_centre line c ≡ true
    → IsAct line w c nothing_came y frames (acted w c y frames)
by_itself line w c y frames counted at = record {
  at = refl;
  changes =
      λ r. omega (arith, placed_acted r (centre_count line) w c y frames counted (ltb-true c (centre_count line) at));
  had = λ r. omega (arith, held_le_placed r (centre_count line) w c (ltb-true c (centre_count line) at));
  on_way = sent_or_on_way w c y frames counted;
}

pub at_head : (line : Line) (w : Flow) (a c : ℕ) (f : Body) (y : Centre) (frames : ℕ → List Body) → IsCounted w
    → is_centre line a ≡ true → is_centre line c ≡ true → TakesHead w a c f
    → IsAct line w c (came_with a c f) y frames (acted (took w a c) c y frames)
at_head line w a c f y frames counted from at takes = record {
  at = refl;
  changes = λ r. omega (
    arith,
    placed_acted r (centre_count line) (took w a c) c y frames (counted_took w a c f takes counted) below,
    placed_took r (centre_count line) w a c f takes small below,
  );
  had = λ r. omega (
    arith,
    held_carried_le_placed r (centre_count line) w c a c below small below,
    ap (carried r a c) takes.head,
    carried_more r a c f (way (took w a c) a c),
  );
  on_way = λ i j g is. ⊎_elim
      (λ (old : Contains (way (took w a c) i j) g). inl (was_on_way w a c f takes i j g old))
      (λ (sent : (i ≡ c) × Contains (frames j) g). inr sent)
      (sent_or_on_way (took w a c) c y frames (counted_took w a c f takes counted) i j g is);
}
  where
    small : a < centre_count line
    small = ltb-true a (centre_count line) from

    below : c < centre_count line
    below = ltb-true c (centre_count line) at

-- # A section enters or leaves a hand of the acting centre.

module _ (line : Line) (w : Flow) (c : ℕ) (came : Resource Centre Body → ℕ) (y : Centre)
    (frames : ℕ → List Body) (new : Flow) (s d : ℕ)
    (act : IsAct line w c came y frames new) (home : is_home line d s ≡ true) where
  -- the home's entry after the act: the acting centre's, or as it was
  pub entry_here : is_home line c s ≡ true → (new.at d).book s ≡ y.book s
  entry_here here = ap (λ x. (new.at x).book s) (one_home line d c s home here)
      ∙ ap (λ (z : Centre). z.book s) (state_here line w c came y frames new act)

  pub entry_elsewhere : is_home line c s ≡ false → (new.at d).book s ≡ (w.at d).book s
  entry_elsewhere away = ap (λ (z : Centre). z.book s) (state_elsewhere line w c came y frames new d act
      (λ same. let wrong : false ≡ true = sym away ∙ ap (λ x. is_home line x s) (sym same) ∙ home in cc))

  pub entry_kept : y.book s ≡ (w.at c).book s → (new.at d).book s ≡ (w.at d).book s
  entry_kept book = ap (λ (g : ℕ → Centre). (g d).book s) act.at ∙ put_keeps (λ (z : Centre). z.book s) w.at c y book d

  pub opened : (old : Mark) → is_home line c s ≡ true → y.book s ≡ centre.Open
      → MarkAfter line w new s d old line_centre.Open
  opened old here book = is_opened refl (entry_here here ∙ book)

  pub shut : (old : Mark) → is_home line c s ≡ true → y.book s ≡ centre.Shut
      → MarkAfter line w new s d old line_centre.Shut
  shut old here book = is_shut refl (entry_here here ∙ book)

  -- a centre that has the section's token, or at which it arrived, has it in use at its home
  pub token_used : (t : ℕ) → IsFlowSound line w → 0 < (tokens line t s).held c (w.at c) + came (tokens line t s)
      → is_used_for t ((w.at d).book s) ≡ true
  token_used t sound has =
      let who = some_cap (tokens line t s) (centre_count line) w
      (omega (arith, has, act.had (tokens line t s), (sound.tokens t s).law)) in
      let both = and_parts (is_home line who.0 s) (is_used_for t ((w.at who.0).book s)) (one_if_some _ who.2) in
      subst (λ h. is_used_for t ((w.at h).book s) ≡ true) (one_home line who.0 d s both.0 home) both.1

  -- of train t
  module _ (t : ℕ) (old : Mark) where
    pub enters_here : is_home line c s ≡ true → is_used_for t (y.book s) ≡ true → 0 < hand_after line c t s y frames
        → MarkAfter line w new s d old (line_centre.Given t)
    enters_here here used has = is_given t refl (ap (is_used_for t) (entry_here here) ∙ used)
        (given line w c came y frames new t s act has)

    pub enters_elsewhere : IsFlowSound line w → is_home line c s ≡ false
        → 0 < (tokens line t s).held c (w.at c) + came (tokens line t s) → 0 < hand_after line c t s y frames
        → MarkAfter line w new s d old (line_centre.Given t)
    enters_elsewhere sound away token has =
        is_given t refl (ap (is_used_for t) (entry_elsewhere away) ∙ token_used t sound token)
        (given line w c came y frames new t s act has)

    pub leaves_elsewhere : IsFlowSound line w → is_home line c s ≡ false → 0 < hand_before t s (w.at c) came
        → hand_after line c t s y frames ≡ 0
        → MarkAfter line w new s d old (line_centre.Kept t)
    leaves_elsewhere sound away had gone = is_kept t refl
        (ap (is_used_for t) (entry_elsewhere away)
        ∙ in_use line w t s d sound (was line w c came y frames new t s act had) home)
        (left line w c came y frames new t s act sound had gone)

-- # The state shown after an act, put together from its fields.

-- ## Of each train at each centre

pub part_stays : (X : Type 0) → PartStays X
part_stays X c old now same = record { here = same; elsewhere = λ t d apart. refl }

pub part_changes : (X : Type 0) → PartChanges X
part_changes X c t x old was now before is = record {
  here = λ u. ⊎_elim
      (λ (here : u ≡ t). ap (λ (row : ℕ → X). row c) (put_here old t u (put (old t) c x) here)
      ∙ put_here (old t) c c x refl ∙ sym (is u ∙ put_here was t u x here))
      (λ (other : u ≢ t). ap (λ (row : ℕ → X). row c) (put_other old t u (put (old t) c x) other) ∙ before u
      ∙ sym (is u ∙ put_other was t u x other))
      (cases_eq u t);
  elsewhere = λ u d apart. ⊎_elim
      (λ (here : u ≡ t). ap (λ (row : ℕ → X). row d) (put_here old t u (put (old t) c x) here)
      ∙ put_other (old t) c d x apart ∙ ap (λ z. old z d) (sym here))
      (λ (other : u ≢ t). ap (λ (row : ℕ → X). row d) (put_other old t u (put (old t) c x) other))
      (cases_eq u t);
}

part_shown : {X : Type 0} (read : Centre → ℕ → X) (w : Flow) (c : ℕ) (y : Centre) (old part : ℕ → ℕ → X)
    → ((t d : ℕ) → old t d ≡ read (w.at d) t)
    → PartAfter c old (read y) part → (t d : ℕ) → part t d ≡ read (put w.at c y d) t
part_shown read w c y old part before after t d = ⊎_elim
    (λ (here : d ≡ c). ap (part t) here ∙ after.here t ∙ sym (ap (λ (z : Centre). read z t) (put_here w.at c d y here)))
    (λ (apart : d ≢ c). after.elsewhere t d apart ∙ before t d
    ∙ sym (ap (λ (z : Centre). read z t) (put_other w.at c d y apart)))
    (cases_eq d c)

-- ## All of it

pub shows_after : (line : Line) (w : Flow) (c : ℕ) (came : Resource Centre Body → ℕ) (y : Centre) (frames : ℕ
    → List Body) (new : Flow) (v after : LineState)
    → IsFlowSound line w → Shows line w v → is_centre line c ≡ true → IsAct line w c came y frames new
    → ShowsAfter line w c came y frames new v after → Shows line new after
shows_after line w c came y frames new v after sound sees at act owed = record {
  phase = λ t d. part_shown (λ z. z.phase) w c y v.phase after.phase sees.phase owed.phase t d ∙ now (λ z. z.phase t) d;
  heard = λ t d. part_shown (λ z. z.heard) w c y v.heard after.heard sees.heard owed.heard t d ∙ now (λ z. z.heard t) d;
  said = λ t d. part_shown (λ z. z.said) w c y v.said after.said sees.said owed.said t d ∙ now (λ z. z.said t) d;
  wait = λ t d. part_shown (λ z. z.wait) w c y v.wait after.wait sees.wait owed.wait t d ∙ now (λ z. z.wait t) d;
  wish = λ s d home. ⊎_elim
      (λ (here : d ≡ c). owed.wish s (ap (λ x. is_home line x s) (sym here) ∙ home)
      ∙ sym (ap (λ (z : Centre). z.wish s) (put_here w.at c d y here)))
      (λ (apart : d ≢ c). owed.other_wish s (away s d (is_home line c s) refl home apart) ∙ sees.wish s d home
      ∙ sym (ap (λ (z : Centre). z.wish s) (put_other w.at c d y apart)))
      (cases_eq d c) ∙ now (λ z. z.wish s) d;
  mark = λ s d home. mark_shown line w new s d (v.mark s) (after.mark s) (owed.mark s d home) (sees.mark s d home);
  no_section = λ s none. owed.no_section s none ∙ sees.no_section s none;
  no_wish = λ s none. owed.other_wish s (ap (has (λ p. p.home == c)) none) ∙ sees.no_wish s none;
  mission = λ t. (missions t).at_centre;
  on_way = λ a b number t. (missions t).on_way a b number;
  no_mission = λ t. (missions t).none;
}
  where
    now : {Y : Type 0} (read : Centre → Y) (d : ℕ) → read (put w.at c y d) ≡ read (new.at d)
    now read d = ap (λ (g : ℕ → Centre). read (g d)) (sym act.at)

    away : (s d : ℕ) (b : Bool) → is_home line c s ≡ b → is_home line d s ≡ true → d ≢ c → is_home line c s ≡ false
    away s d true is home apart = absurd (apart (one_home line d c s home is))
    away s d false is home apart = is

    before : (t : ℕ) → ShowsMission line w t (v.mission t)
    before t =
        record { at_centre = sees.mission t; on_way = λ a b number. sees.on_way a b number t; none = sees.no_mission t }

    missions : (t : ℕ) → ShowsMission line new t (after.mission t)
    missions t = mission_shown line w c came y frames new t sound act at (v.mission t) (after.mission t)
        (before t) (owed.mission t)

-- ## Unseen

pub unseen_shown : (line : Line) (w : Flow) (c : ℕ) (came : Resource Centre Body → ℕ) (y : Centre) (frames : ℕ
    → List Body) (new : Flow) (v : LineState)
    (phase : ℕ → ℕ → Phase) (heard : ℕ → ℕ → Option ℕ) (said : ℕ → ℕ → ℕ) → IsFlowSound line w → Shows line w v
    → is_centre line c ≡ true → IsAct line w c came y frames new
    → IsUnseen c (w.at c) came y frames → PartAfter c v.phase y.phase phase → PartAfter c v.heard y.heard heard
    → PartAfter c v.said y.said said
    → Shows line new (record v { phase = phase; heard = heard; said = said })
unseen_shown line w c came y frames new v phase heard said sound sees at act same phases hears says =
    shows_after line w c came y frames new v (record v { phase = phase; heard = heard; said = said })
    sound sees at act (record {
      phase = phases;
      heard = hears;
      said = says;
      wait = part_stays (Option Place) c v.wait y.wait (λ t. sees.wait t c ∙ sym (same.wait t));
      wish = λ s home. sees.wish s c home ∙ sym (same.wish s);
      other_wish = λ s other. refl;
      mark = λ s d home. mark_stays line w c came y frames new s d (v.mark s) act (same.book s)
          (λ t used.
          omega (
            arith,
            sends_none (hands t s) (centre_count line) c frames (same.no_hand_sent t s),
            same.no_hand_came t s,
            ap one_if (same.hand t s),
          ));
      no_section = λ s none. refl;
      mission = λ t. stays refl (same.mission t) (same.no_mission_came t) (same.no_mission_sent t);
    })

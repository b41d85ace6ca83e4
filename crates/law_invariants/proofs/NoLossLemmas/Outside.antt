use Rattle.std.proofs.Common.{[], ◌&&◌, ◌+◌, ◌==◌, ◌||◌, ◌∙◌, ◌∷◌, ◌≡◌, ◌≤◌, ap, arith, Bool, eqb-true, false}
use Rattle.std.proofs.Common.{if◌then◌else◌, ltb-true, None, not, Option, refl, Some, subst, sym, true, ℕ}
use Rattle.std.proofs.lemmas.Bool.{and_from}
use Rattle.law_base.proofs.CountingLemmas.Resource.{carried_more}
use Rattle.law_base.proofs.CountingLemmas.Sums.{one_if_le_one, one_if_true, term_le_sum}
use Rattle.law_base.proofs.LocalLemmas.Worlds.{is_ordered}
use Rattle.law_base.specs.Counting.Resource.{carried, sent_by}
use Rattle.law_base.specs.Counting.Sums.{one_if}
use Rattle.law_base.specs.Local.Local.{hand_has}
use Rattle.law_invariants.proofs.FlowLemmas.Neighbours.{home_below}
use Rattle.law_invariants.proofs.FlowLemmas.OnePlace.{no_use}
use Rattle.law_invariants.proofs.NoCopyLemmas.Rights.{no_number}
use Rattle.law_invariants.proofs.NoCopyLemmas.Tally.{gone, IsExactTally, IsTally, MayYield, mission_of, part, Tally}
use Rattle.law_invariants.proofs.NoCopyLemmas.Tally.{wait_of}
use Rattle.law_invariants.proofs.NoCopyLemmas.Tokens.{home_goes_once, open_none, tokens_counted, unused_none, used_once}
use Rattle.law_invariants.proofs.NoLossLemmas.Rights.{away_used, outside, outside_kept, registrar_known, taken_at_home}
use Rattle.law_invariants.specs.Flow.Counts.{pool_has}
use Rattle.law_invariants.specs.Flow.Flow.{centre_count}
use Rattle.rbc_spec.proofs.Lists.{itself}
use Rattle.rbc_spec.proofs.Runs.{within_none, within_shared}
use Rattle.rbc_spec.specs.Acts.{returned}
use Rattle.rbc_spec.specs.Centre.{Centre, Entry, is_out_for, is_taken_for, Mission, Out, Taken}
use Rattle.rbc_spec.specs.Frame.{RouteReturn}
use Rattle.rbc_spec.specs.Line.{is_home, IsLine, Line, Section, section}
use Rattle.rbc_spec.specs.Maps.{has}
use Rattle.rbc_spec.specs.Place.{covered, Place}
use Rattle.rbc_spec.specs.SectionRuns.{is_empty, SectionRun, shared, within}
use Rattle.rbc_spec.specs.Sections.{home_run, is_on}

module _ (line : Line) (ok : IsLine line) (c t s : ℕ) where
  abbrev y : Tally
  y = outside_kept line c t s

  no_wait : (o : Option Place) → wait_of line y o ≡ 0
  no_wait None = refl
  no_wait (Some place) = no_number (within (covered line place) s)

  as_weight : (a w : Bool) → one_if (a && w) ≡ (if w then one_if a else 0)
  as_weight true true = refl
  as_weight true false = refl
  as_weight false true = refl
  as_weight false false = refl

  held_mission : (o : Option Mission) → one_if (not (is_home line c s) && hand_has o s)
      + one_if (not (is_home line c s) && pool_has o s) ≡ mission_of y o
  held_mission None = omega (arith, no_use (not (is_home line c s)))
  held_mission (Some m) =
      omega (
        arith,
        as_weight (not (is_home line c s)) (within m.hand s),
        as_weight (not (is_home line c s)) (within m.pool s),
      )

  goes : (u track : ℕ) (r : SectionRun) (k : Centre)
      → sent_by (outside line t s) (centre_count line) c (returned line c u track r k).frames ≤ gone y u r
  goes u track r k =
      omega (
        arith,
        home_goes_once line (is_ordered line ok) (outside line t s) c u track s (u == t)
            (λ e q. omega arith) r k,
        as_gone (u == t) (within r s) (is_home line c s),
      )
    where
      as_gone : (a w h : Bool) → one_if ((a && w) && not h) ≤ (if a then (if w then one_if (not h) else 0) else 0)
      as_gone true true h = omega arith
      as_gone true false h = omega arith
      as_gone false w h = omega arith

  -- a section of another home is returned, if it is on the track
  pub all_go : (track : ℕ) (r : SectionRun) (k : Centre) → within r s ≡ true → is_on line track s ≡ true
      → is_home line c s ≡ false
      → 1 ≤ sent_by (outside line t s) (centre_count line) c (returned line c t track r k).frames
  unfolding sent_by
  all_go track r k in_run on foreign = by_section (section line s) refl on
    where
      by_section : (o : Option Section) → section line s ≡ o → has (λ p. p.track == track) o ≡ true
          → 1 ≤ sent_by (outside line t s) (centre_count line) c (returned line c t track r k).frames
      by_section None at on_track = cc
      by_section (Some p) at on_track = omega (
        arith,
        term_le_sum (centre_count line) (λ e. carried (outside line t s) c e ((returned line c t track r k).frames e))
            p.home (ltb-true p.home (centre_count line) (home_below line ok s p at)),
        goes_there (p.home == c) refl (is_empty part_there) refl,
      )
        where
          part_there : SectionRun
          part_there = shared r (home_run line p.home track)

          home : is_home line p.home s ≡ true
          home = ap (has (λ q. q.home == p.home)) at ∙ itself p.home

          in_part : within part_there s ≡ true
          in_part = within_shared r (home_run line p.home track) s
              ∙ and_from (within r s) (within (home_run line p.home track) s) in_run
              ((is_ordered line ok).homes_run p.home track s
              ∙ and_from (is_home line p.home s) (is_on line track s) home on)

          goes_there : (b : Bool) → (p.home == c) ≡ b → (e : Bool) → is_empty part_there ≡ e
              → 1 ≤ carried (outside line t s) c p.home (if b || e then [] else RouteReturn t part_there ∷ [])
          goes_there true same e none = absurd (let wrong : false ≡ true = sym foreign
              ∙ ap (λ d. is_home line d s) (sym (eqb-true p.home c same)) ∙ home in cc)
          goes_there false other true none =
              absurd (let wrong : false ≡ true = sym (within_none part_there s (eqb-true part_there.count 0 none))
              ∙ in_part in cc)
          goes_there false other false some = omega (
            arith,
            carried_more (outside line t s) c p.home (RouteReturn t part_there) [],
            one_if_true ((t == t) && within part_there s) (and_from (t == t) (within part_there s) (itself t) in_part),
          )

  no_entry : (e : Entry) → is_out_for t e ≡ false → one_if (is_home line c s && is_out_for t e) ≡ 0
  no_entry e none = ap (λ z. one_if (is_home line c s && z)) none ∙ no_use (is_home line c s)

  foreign_entry : is_home line c s ≡ false → (e : Entry) → one_if (is_home line c s && is_out_for t e) ≡ 0
  foreign_entry foreign e = ap (λ z. one_if (z && is_out_for t e)) foreign

  own_entry : is_home line c s ≡ true → (e : Entry) → is_out_for t e ≡ true
      → one_if (is_home line c s && is_out_for t e) ≡ 1
  own_entry home e out = one_if_true _ (and_from (is_home line c s) (is_out_for t e) home out)

  own_weight : is_home line c s ≡ true → one_if (not (is_home line c s)) ≡ 0
  own_weight home = ap (λ z. one_if (not z)) home

  foreign_weight : is_home line c s ≡ false → one_if (not (is_home line c s)) ≡ 1
  foreign_weight foreign = ap (λ z. one_if (not z)) foreign

  in_run : (r : SectionRun) → within r s ≡ true → one_if ((t == t) && within r s) ≡ 1
  in_run r is = one_if_true _ (and_from (t == t) (within r s) (itself t) is)

  out_of_run : (r : SectionRun) → within r s ≡ false → one_if ((t == t) && within r s) ≡ 0
  out_of_run r is = ap (λ z. one_if ((t == t) && z)) is ∙ no_use (t == t)

  told : (r : SectionRun) → part y r ≤ one_if ((t == t) && within r s)
  told r = by_run (within r s) refl
    where
      by_run : (w : Bool) → within r s ≡ w → (if w then one_if (not (is_home line c s)) else 0)
          ≤ one_if ((t == t) && within r s)
      by_run true is = omega (arith, in_run r is, one_if_le_one (not (is_home line c s)))
      by_run false is = omega arith

  told_less : (r : SectionRun) → (within r s ≡ true → is_home line c s ≡ false)
      → one_if ((t == t) && within r s) ≤ part y r
  told_less r foreign = by_run (within r s) refl foreign
    where
      by_run : (w : Bool) → within r s ≡ w → (w ≡ true → is_home line c s ≡ false)
          → one_if ((t == t) && within r s) ≤ (if w then one_if (not (is_home line c s)) else 0)
      by_run true is away = omega (arith, in_run r is, foreign_weight (away refl))
      by_run false is away = omega (arith, out_of_run r is)

  -- a yield: the section goes from the hand, or its entry becomes out
  yields_law : (hand : SectionRun) (e : Entry) → MayYield line c y hand e
      → one_if (is_home line c s && is_out_for t e) + one_if ((t == t) && within hand s)
      ≡ part y hand + one_if (is_home line c s
      && is_out_for t (if within hand s && is_taken_for t e then Out t else e))
  yields_law hand e may = by_tests (within hand s) refl (is_home line c s) refl
    where
      goal_of : Bool → Bool → Type 0
      goal_of w x = one_if (is_home line c s && is_out_for t e) + one_if ((t == t) && within hand s)
          ≡ (if w then one_if (not (is_home line c s)) else 0)
          + one_if (is_home line c s && is_out_for t (if w && x then Out t else e))

      foreign : is_home line c s ≡ false → (x : Bool) → within hand s ≡ true → goal_of true x
      foreign away x is =
          omega (
            arith,
            in_run hand is,
            foreign_weight away,
            foreign_entry away e,
            foreign_entry away (if x then Out t else e),
          )

      by_tests : (w : Bool) → within hand s ≡ w → (h : Bool) → is_home line c s ≡ h → goal_of w (is_taken_for t e)
      by_tests false is h home = omega (arith, out_of_run hand is)
      by_tests true is true home = let taken = may is home in
          subst (goal_of true) (sym taken)
          (omega (
            arith,
            in_run hand is,
            own_weight home,
            no_entry e (taken_at_home t t e taken),
            own_entry home (Out t) (itself t),
          ))
      by_tests true is false home = foreign home (is_taken_for t e) is

  -- a mission that is taken over: the section enters the hand, or its entry is taken
  takes_le : (hand : SectionRun) (e : Entry)
      → one_if (is_home line c s && is_out_for t e) + part y hand ≤ one_if ((t == t) && within hand s)
      + one_if (is_home line c s && is_out_for t (if within hand s && is_out_for t e then Taken t else e))
  takes_le hand e = by_tests (within hand s) refl (is_home line c s) refl (is_out_for t e)
    where
      by_tests : (w : Bool) → within hand s ≡ w → (h : Bool) → is_home line c s ≡ h → (x : Bool)
          → one_if (is_home line c s && is_out_for t e) + (if w then one_if (not (is_home line c s)) else 0)
          ≤ one_if ((t == t) && within hand s)
          + one_if (is_home line c s && is_out_for t (if w && x then Taken t else e))
      by_tests false is h home x = omega arith
      by_tests true is true home x =
          omega (arith, in_run hand is, own_weight home, one_if_le_one (is_home line c s && is_out_for t e))
      by_tests true is false home x = omega (arith, in_run hand is, foreign_weight home, foreign_entry home e)

  takes_ge : (hand : SectionRun) (e : Entry) → (within hand s ≡ true → is_home line c s ≡ true → is_out_for t e ≡ true)
      → one_if ((t == t) && within hand s) + one_if (is_home line c s
      && is_out_for t (if within hand s && is_out_for t e then Taken t else e))
      ≤ one_if (is_home line c s && is_out_for t e) + part y hand
  takes_ge hand e out = by_tests (within hand s) refl (is_home line c s) refl (is_out_for t e) refl
    where
      by_tests : (w : Bool) → within hand s ≡ w → (h : Bool) → is_home line c s ≡ h → (x : Bool) → is_out_for t e ≡ x
          → one_if ((t == t) && within hand s) + one_if (is_home line c s
          && is_out_for t (if w && x then Taken t else e)) ≤ one_if (is_home line c s && is_out_for t e)
          + (if w then one_if (not (is_home line c s)) else 0)
      by_tests false is h home x at = omega (arith, out_of_run hand is)
      by_tests true is true home true at = omega (arith, in_run hand is, own_entry home e at, no_entry (Taken t) refl)
      by_tests true is true home false at = absurd (let wrong : true ≡ false = sym (out is home) ∙ at in cc)
      by_tests true is false home x at =
          omega (arith, in_run hand is, foreign_weight home, foreign_entry home (if x then Taken t else e))

  exact : IsExactTally line c (outside_kept line c t s)
  exact = record {
    home_goes = gone_all;
    here = λ e g one two. omega (arith, no_entry e one, no_entry g two);
    named = refl;
    registrar = registrar_known line ok c y;
    heavy = omega arith;
    waiting = refl;
    own = own_weight;
    lends = λ d r e home is opened. omega (arith, in_run r is, one_if_le_one (is_home line c s && (t == t)));
    told = λ a r foreign. told_less r foreign;
    told_back = λ a r. omega arith;
    not_told = λ a b r none. out_of_run r (within_none r s (eqb-true r.count 0 none));
    comes_home = λ a r e g home out unused.
        omega (
          arith,
          own_entry home e out,
          no_entry g (away_used t g (unused_none t g unused)),
          one_if_le_one ((t == t) && within r s),
        );
    not_home = λ a b r out. out_of_run r out;
    yields = λ to number heard has_data is_ended place hand e may. omega (arith, yields_law hand e may);
    takes = λ a number heard has_data is_ended place hand e out. omega (arith, takes_ge hand e out);
  }
    where
      gone_all : (u track : ℕ) (r : SectionRun) (k : Centre) → (u ≡ t → within r s ≡ true → is_on line track s ≡ true)
          → gone y u r ≤ sent_by (outside line t s) (centre_count line) c (returned line c u track r k).frames
      gone_all u track r k on = by_train (u == t) refl
        where
          by_run : u ≡ t → (w : Bool) → within r s ≡ w → (h : Bool) → is_home line c s ≡ h
              → (if w then one_if (not (is_home line c s)) else 0)
              ≤ sent_by (outside line t s) (centre_count line) c (returned line c u track r k).frames
          by_run here false is h home = omega arith
          by_run here true is true home = omega (arith, own_weight home)
          by_run here true is false home = omega (
            arith,
            foreign_weight home,
            subst (λ v. 1 ≤ sent_by (outside line t s) (centre_count line) c (returned line c v track r k).frames)
                (sym here) (all_go track r k is (on here is) home),
          )

          by_train : (b : Bool) → (u == t) ≡ b
              → (if b then (if within r s then one_if (not (is_home line c s)) else 0) else 0)
              ≤ sent_by (outside line t s) (centre_count line) c (returned line c u track r k).frames
          by_train false other = omega arith
          by_train true same = by_run (eqb-true u t same) (within r s) refl (is_home line c s) refl

  pub outside_exact : IsTally line c (outside_kept line c t s)
  outside_exact = let old = tokens_counted line (is_ordered line ok) c t s in record {
    held = λ k. omega (arith, no_wait (k.wait t), held_mission (k.mission t), no_number (k.has_right t));
    cap = λ k. refl;
    plain = old.plain;
    others = old.others;
    gives = λ a b. refl;
    backs = λ a b. refl;
    home_goes = goes;
    unused = λ e g is. omega (arith, no_entry e (away_used t e (unused_none t e is)));
    other = λ u e g apart used. omega (arith, no_entry e (away_used t e (used_once u t e apart used)));
    light = omega arith;
    opens = λ e home is. (
      omega (arith, no_entry e (away_used t e (open_none t e is)), own_weight home),
      omega (arith, no_entry e (away_used t e (open_none t e is))),
    );
    frees = λ e g home is. (
      omega (arith, own_weight home, no_entry e (taken_at_home t t e is)),
      omega (arith, no_entry e (taken_at_home t t e is)),
    );
    waits = λ home. omega (arith, own_weight home);
    lends = λ d r e home is.
        omega (
          arith,
          no_entry e (away_used t e (open_none t e is)),
          own_entry home (Out t) (itself t),
          one_if_le_one ((t == t) && within r s),
        );
    names = λ a b r out. out_of_run r out;
    told = λ a r. told r;
    told_back = λ a r. omega arith;
    comes_home = λ a r e g home is out. omega (arith, in_run r is, one_if_le_one (is_home line c s && is_out_for t e));
    yields = λ to number heard has_data is_ended place hand e may. omega (arith, yields_law hand e (may refl));
    takes = λ a number heard has_data is_ended place hand e. omega (arith, takes_le hand e);
    back = λ so. exact;
  }

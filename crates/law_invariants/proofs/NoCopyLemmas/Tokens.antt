-- Tokens of sections are counted.
use Rattle.std.proofs.Common.{[], ◌&&◌, ◌+◌, ◌==◌, ◌||◌, ◌∙◌, ◌∷◌, ◌≡◌, ◌≢◌, ◌≤◌, ap, arith, Bool, false, if◌then◌else◌}
use Rattle.std.proofs.Common.{None, not, Option, refl, Some, sym, true, ℕ}
use Rattle.std.proofs.lemmas.Bool.{and_from, and_parts, eqb-true, ne_eqb}
use Rattle.law_base.proofs.CountingLemmas.Resource.{carried_more, carried_none}
use Rattle.law_base.proofs.CountingLemmas.Sums.{one_if_le, one_if_le_one, one_if_true, sum_le}
use Rattle.law_base.specs.Counting.Resource.{carried, Resource, sent_by}
use Rattle.law_base.specs.Counting.Sums.{one_if}
use Rattle.law_base.specs.Local.Local.{hand_has, IsOrdered}
use Rattle.law_base.specs.Walk.Trains.{train_of}
use Rattle.law_invariants.proofs.FlowLemmas.OnePlace.{no_use}
use Rattle.law_invariants.proofs.FlowLemmas.Taken.{homes_once, in_both}
use Rattle.law_invariants.proofs.NoCopyLemmas.Ready.{Ready}
use Rattle.law_invariants.proofs.NoCopyLemmas.Rights.{no_number}
use Rattle.law_invariants.proofs.NoCopyLemmas.Tally.{gone, IsTally, mission_of, part, Tally, wait_of}
use Rattle.law_invariants.specs.Flow.Counts.{pool_has, tokens, wait_has}
use Rattle.law_invariants.specs.Flow.Flow.{centre_count}
use Rattle.law_invariants.specs.NoCopy.Stray.{is_plain}
use Rattle.rbc_spec.proofs.Lists.{itself, one_home}
use Rattle.rbc_spec.specs.Acts.{returned}
use Rattle.rbc_spec.specs.Centre.{Centre, Entry, is_open, is_out_for, is_taken_for, is_unused, is_used_for, Mission}
use Rattle.rbc_spec.specs.Centre.{Open, Out, Shut, Taken}
use Rattle.rbc_spec.specs.Frame.{Announce, AskRight, Body, Cancel, GiveRight, RefuseRight, ReturnRight, RouteAsk}
use Rattle.rbc_spec.specs.Frame.{RouteInfo, RouteReturn, RouteWithdraw, TakingOver, Yield}
use Rattle.rbc_spec.specs.Line.{is_home, Line}
use Rattle.rbc_spec.specs.Place.{Place}
use Rattle.rbc_spec.specs.SectionRuns.{is_empty, SectionRun, shared, within}
use Rattle.rbc_spec.specs.Sections.{home_run, is_on}

-- # The frames that return sections name a section at most once, only one of the run, and none of the own home.

-- for a resource of which such a frame has at most one inside, if it names section s
module _ (line : Line) (ordered : IsOrdered line) (res : Resource Centre Body) (c t track s : ℕ) (a : Bool)
    (one : (e : ℕ) (q : SectionRun) → res.inside c e (RouteReturn t q) ≤ one_if (a && within q s))
    (r : SectionRun) (k : Centre) where
  one_home_goes : (e : ℕ) → carried res c e ((returned line c t track r k).frames e)
      ≤ one_if (((a && within r s) && not (is_home line c s)) && is_home line e s)
  one_home_goes e = by_empty (e == c) refl (is_empty part)
    where
      part : SectionRun
      part = shared r (home_run line e track)

      away : (b : Bool) → is_home line c s ≡ b → (e == c) ≡ false → is_home line e s ≡ true → is_home line c s ≡ false
      away true is other home = absurd (let wrong : false ≡ true = sym other
          ∙ ap (λ x. x == c) (one_home line e c s home is) ∙ itself c in cc)
      away false is other home = is

      named : (b : Bool) → within part s ≡ b → (e == c) ≡ false
          → one_if (a && b) ≤ one_if (((a && within r s) && not (is_home line c s)) && is_home line e s)
      named true is other =
          let both = in_both r (home_run line e track) s is in
          let home = and_parts (is_home line e s) (is_on line track s) (sym (ordered.homes_run e track s) ∙ both.1) in
          one_if_le (a && true) _
          (λ h. and_from _ _ (and_from _ _ (and_from _ _ (and_parts a true h).0 both.0)
          (ap not (away (is_home line c s) refl other home.0))) home.0)
      named false is other =
          one_if_le (a && false) _ (λ h. absurd (let wrong : false ≡ true = (and_parts a false h).1 in cc))

      by_empty : (z : Bool) → (e == c) ≡ z → (b : Bool)
          → carried res c e (if z || b then [] else RouteReturn t part ∷ [])
          ≤ one_if (((a && within r s) && not (is_home line c s)) && is_home line e s)
      by_empty true is b = omega (arith, carried_none res c e)
      by_empty false is true = omega (arith, carried_none res c e)
      by_empty false is false =
          omega (
            arith,
            carried_more res c e (RouteReturn t part) [],
            carried_none res c e,
            one e part,
            named (within part s) refl is,
          )

  pub home_goes_once : sent_by res (centre_count line) c (returned line c t track r k).frames
      ≤ one_if ((a && within r s) && not (is_home line c s))
  unfolding sent_by
  home_goes_once = omega (
    arith,
    sum_le (centre_count line) (λ e. carried res c e ((returned line c t track r k).frames e))
        (λ e. one_if (((a && within r s) && not (is_home line c s)) && is_home line e s)) (λ e at. one_home_goes e),
    homes_once line s (centre_count line) ((a && within r s) && not (is_home line c s)),
  )

-- # Tokens of sections are counted: in a start that waits, a hand, a pool, or a frame.

-- an entry in no use is in use for no train, and one in use for a train is for no other
pub unused_none : (t : ℕ) (e : Entry) → is_unused e ≡ true → is_used_for t e ≡ false
unused_none t Shut h = refl
unused_none t Open h = refl
unused_none t (Taken u) h = cc
unused_none t (Out u) h = cc

pub open_none : (t : ℕ) (e : Entry) → is_open e ≡ true → is_used_for t e ≡ false
open_none t Shut h = refl
open_none t Open h = refl
open_none t (Taken u) h = cc
open_none t (Out u) h = cc

pub used_once : (u t : ℕ) (e : Entry) → u ≢ t → is_used_for u e ≡ true → is_used_for t e ≡ false
used_once u t e other used = by_entry e used
  where
    apart : (v : ℕ) → (v == u) ≡ true → (v == t) ≡ false
    apart v same = ne_eqb v t (λ now. other (sym (eqb-true v u same) ∙ now))

    by_entry : (g : Entry) → is_used_for u g ≡ true → is_used_for t g ≡ false
    by_entry Shut h = refl
    by_entry Open h = refl
    by_entry (Taken v) h = apart v h
    by_entry (Out v) h = apart v h

abbrev pub tokens_tally : Line → ℕ → ℕ → ℕ → Tally
tokens_tally line c t s = record {
  res = tokens line t s;
  train = t;
  section = s;
  one = 0;
  weight = 1;
  waiting = 1;
  away = one_if (not (is_home line c s));
  entry = λ e. one_if (is_home line c s && is_used_for t e);
  outside = false;
  exact = false;
}

module _ (line : Line) (ordered : IsOrdered line) (c t s : ℕ) where
  abbrev y : Tally
  y = tokens_tally line c t s

  held_wait : (o : Option Place) → one_if (wait_has line o s) ≡ wait_of line y o
  held_wait None = refl
  held_wait (Some place) = refl

  held_mission : (o : Option Mission) → one_if (hand_has o s) + one_if (pool_has o s) ≡ mission_of y o
  held_mission None = refl
  held_mission (Some m) = omega arith

  plain_body : (a b : ℕ) (body : Body) → is_plain body ≡ true → (tokens line t s).inside a b body ≡ 0
  plain_body a b (AskRight u) h = refl
  plain_body a b (GiveRight u) h = cc
  plain_body a b (RefuseRight u) h = refl
  plain_body a b (ReturnRight u) h = cc
  plain_body a b (RouteAsk u first most) h = refl
  plain_body a b (RouteInfo u r) h = cc
  plain_body a b (RouteWithdraw u n) h = refl
  plain_body a b (RouteReturn u r) h = cc
  plain_body a b (Announce number u track) h = refl
  plain_body a b (Cancel number u) h = refl
  plain_body a b (TakingOver number u) h = refl
  plain_body a b (Yield number u heard has_data is_ended place hand) h = cc

  other_body : (a b : ℕ) (body : Body) → train_of body ≢ t → (tokens line t s).inside a b body ≡ 0
  other_body a b (AskRight u) h = refl
  other_body a b (GiveRight u) h = refl
  other_body a b (RefuseRight u) h = refl
  other_body a b (ReturnRight u) h = refl
  other_body a b (RouteAsk u first most) h = refl
  other_body a b (RouteInfo u r) h = ap (λ z. one_if (z && within r s)) (ne_eqb u t h)
  other_body a b (RouteWithdraw u n) h = refl
  other_body a b (RouteReturn u r) h = ap (λ z. one_if (z && within r s)) (ne_eqb u t h)
  other_body a b (Announce number u track) h = refl
  other_body a b (Cancel number u) h = refl
  other_body a b (TakingOver number u) h = refl
  other_body a b (Yield number u heard has_data is_ended place hand) h =
      ap (λ z. one_if (z && within hand s)) (ne_eqb u t h)

  goes : (u track : ℕ) (r : SectionRun) (k : Centre)
      → sent_by (tokens line t s) (centre_count line) c (returned line c u track r k).frames ≤ gone y u r
  goes u track r k =
      omega (
        arith,
        home_goes_once line ordered (tokens line t s) c u track s (u == t) (λ e q. omega arith) r k,
        as_gone (u == t) (within r s) (is_home line c s),
      )
    where
      as_gone : (a w h : Bool) → one_if ((a && w) && not h) ≤ (if a then (if w then one_if (not h) else 0) else 0)
      as_gone true true h = omega arith
      as_gone true false h = omega arith
      as_gone false w h = omega arith

  no_entry : (e : Entry) → is_used_for t e ≡ false → one_if (is_home line c s && is_used_for t e) ≡ 0
  no_entry e none = ap (λ z. one_if (is_home line c s && z)) none ∙ no_use (is_home line c s)

  own_entry : is_home line c s ≡ true → one_if (is_home line c s && (t == t)) ≡ 1
  own_entry home = one_if_true _ (and_from (is_home line c s) (t == t) home (itself t))

  away_none : is_home line c s ≡ true → one_if (not (is_home line c s)) ≡ 0
  away_none home = ap (λ z. one_if (not z)) home

  in_run : (r : SectionRun) → within r s ≡ true → one_if ((t == t) && within r s) ≡ 1
  in_run r is = one_if_true _ (and_from (t == t) (within r s) (itself t) is)

  out_of_run : (r : SectionRun) → within r s ≡ false → one_if ((t == t) && within r s) ≡ 0
  out_of_run r is = ap (λ z. one_if ((t == t) && z)) is ∙ no_use (t == t)

  as_part : (r : SectionRun) → one_if ((t == t) && within r s) ≡ part y r
  as_part r = ap (λ z. one_if (z && within r s)) (itself t)

  -- an entry in use for the train may be in use for it in another way
  still_used : (b : Bool) (e g : Entry) → (b ≡ true → is_used_for t g ≡ true)
      → one_if (is_home line c s && is_used_for t e) ≤ one_if (is_home line c s && is_used_for t (if b then g else e))
  still_used false e g is = omega arith
  still_used true e g is = one_if_le (is_home line c s && is_used_for t e) (is_home line c s && is_used_for t g)
      (λ h. and_from _ _ (and_parts (is_home line c s) (is_used_for t e) h).0 (is refl))

  pub tokens_counted : IsTally line c (tokens_tally line c t s)
  tokens_counted = record {
    held = λ k. omega (arith, held_wait (k.wait t), held_mission (k.mission t), no_number (k.has_right t));
    cap = λ k. refl;
    plain = plain_body;
    others = other_body;
    gives = λ a b. refl;
    backs = λ a b. refl;
    home_goes = goes;
    unused = λ e g is. omega (arith, no_entry e (unused_none t e is));
    other = λ u e g apart used. omega (arith, no_entry e (used_once u t e apart used));
    light = one_if_le_one (not (is_home line c s));
    opens = λ e home is. (
      omega (arith, no_entry e (open_none t e is), own_entry home),
      omega (arith, no_entry e (open_none t e is), own_entry home),
    );
    frees = λ e g home is. (
      omega (arith, away_none home, one_if_le_one (is_home line c s && is_used_for t e)),
      omega (arith, one_if_le_one (is_home line c s && is_used_for t e)),
    );
    waits = λ home. omega arith;
    lends = λ d r e home is.
        omega (arith, no_entry e (open_none t e is), own_entry home, one_if_le_one ((t == t) && within r s));
    names = λ a b r out. out_of_run r out;
    told = λ a r. omega (arith, as_part r);
    told_back = λ a r. omega arith;
    comes_home = λ a r e g home is out. omega (arith, in_run r is, one_if_le_one (is_home line c s && is_used_for t e));
    yields = λ to number heard has_data is_ended place hand e may.
        omega (arith, as_part hand, still_used (within hand s && is_taken_for t e) e (Out t) (λ h. itself t));
    takes = λ a number heard has_data is_ended place hand e.
        omega (arith, as_part hand, still_used (within hand s && is_out_for t e) e (Taken t) (λ h. itself t));
    back = λ so. cc;
  }

  -- nor is it counted only outside its home
  pub tokens_ready : (k : Centre) → Ready line c (tokens_tally line c t s) k
  tokens_ready k = record { claims = λ so has home. cc; stands = λ so m is. cc }

-- Rights are counted, and each part of a frame that comes.
use Rattle.std.proofs.Common.{[], ⊎_elim, ◌&&◌, ◌<◌, ◌==◌, ◌||◌, ◌∙◌, ◌∷◌, ◌≡◌, ◌≢◌, ap, arith, Bool, false}
use Rattle.std.proofs.Common.{if◌then◌else◌, is_none, is_some, None, not, Option, refl, Some, subst, sym, true, ℕ}
use Rattle.std.proofs.lemmas.Bool.{and_parts, cases_eq, eqb-true, ne_eqb}
use Rattle.law_base.proofs.CountingLemmas.Resource.{carried_more, carried_none}
use Rattle.law_base.proofs.CountingLemmas.Sums.{one_if_le_one, one_if_true, sum_zero}
use Rattle.law_base.specs.Counting.Resource.{carried, sent_by}
use Rattle.law_base.specs.Counting.Sums.{one_if}
use Rattle.law_base.specs.Walk.Trains.{train_of}
use Rattle.law_invariants.proofs.NoCopyLemmas.Leaving.{fair_return_right, gives_back, Makes, returns_back, sends}
use Rattle.law_invariants.proofs.NoCopyLemmas.Leaving.{sends_plain}
use Rattle.law_invariants.proofs.NoCopyLemmas.Ready.{Ready}
use Rattle.law_invariants.proofs.NoCopyLemmas.Starts.{fair_right_taken}
use Rattle.law_invariants.proofs.NoCopyLemmas.Tally.{eased, Fair, fair_if, fair_rest, fair_then, HasRegistrar, IsTally}
use Rattle.law_invariants.proofs.NoCopyLemmas.Tally.{mission_of, Tally, wait_of}
use Rattle.law_invariants.specs.Flow.Counts.{rights}
use Rattle.law_invariants.specs.Flow.Flow.{centre_count}
use Rattle.law_invariants.specs.NoCopy.Stray.{has_place_for, is_plain}
use Rattle.rbc_spec.proofs.Lists.{itself}
use Rattle.rbc_spec.specs.Acts.{◌>>◌, become, Reply, rest, returned, send}
use Rattle.rbc_spec.specs.Centre.{Centre, Entry, is_out_for, is_registrar_of, is_used_for, Mission, Open, Out, Shut}
use Rattle.rbc_spec.specs.Centre.{Taken}
use Rattle.rbc_spec.specs.Frame.{Announce, AskRight, Body, Cancel, GiveRight, RefuseRight, ReturnRight, RouteAsk}
use Rattle.rbc_spec.specs.Frame.{RouteInfo, RouteReturn, RouteWithdraw, TakingOver, Yield}
use Rattle.rbc_spec.specs.Line.{Line}
use Rattle.rbc_spec.specs.Links.{is_train, right_asked, right_returned}
use Rattle.rbc_spec.specs.Maps.{put}
use Rattle.rbc_spec.specs.Place.{covered, Place}
use Rattle.rbc_spec.specs.SectionRuns.{is_empty, SectionRun, shared, within}
use Rattle.rbc_spec.specs.Sections.{home_run}

-- # The amount in an arriving frame has its place, or none of it is counted. Rights that are asked for, and returned
-- ones.

pub used_out : (t : ℕ) (e : Entry) → is_out_for t e ≡ true → is_used_for t e ≡ true
used_out t Shut h = cc
used_out t Open h = cc
used_out t (Taken u) h = cc
used_out t (Out u) h = h

-- out for one train, a section is out for no other
pub out_apart : (t u : ℕ) (e : Entry) → t ≢ u → is_out_for t e ≡ true → is_out_for u e ≡ false
out_apart t u Shut other h = refl
out_apart t u Open other h = refl
out_apart t u (Taken v) other h = refl
out_apart t u (Out v) other h = ne_eqb v u (λ same. other (sym (eqb-true v t h) ∙ same))

module _ (line : Line) (c : ℕ) (y : Tally) (is : IsTally line c y) where
  -- no more than this amount arrives
  abbrev pub Comes : ℕ → Body → Centre → Reply → Type 0
  Comes d body k q = Fair line c y k (y.res.inside d c body) 0 q

  pub lost : (d : ℕ) (body : Body) (k : Centre) (q : Reply)
      → (y.exact ≡ true → train_of body ≡ y.train → y.res.inside d c body ≡ 0)
      → Makes line c y is k q → Comes d body k q
  lost d body k q none makes = eased line c y (y.res.inside d c body) 0 k q (omega arith)
      (λ so. omega (
        arith,
        ⊎_elim (λ (here : train_of body ≡ y.train). none so here)
            (λ (other : train_of body ≢ y.train). is.others d c body other) (cases_eq (train_of body) y.train),
      )) makes

  pub plain : (d : ℕ) (body : Body) (k : Centre) (q : Reply) → is_plain body ≡ true
      → Makes line c y is k q → Comes d body k q
  plain d body k q so = lost d body k q (λ exact here. is.plain d c body so)

  -- If losses are counted: the frame is from another centre of the line, and the train's part of it has its place here.
  abbrev pub IsFrom : ℕ → Type 0
  IsFrom d = y.exact ≡ true → (d < centre_count line) × (c ≢ d)

  abbrev pub IsDue : ℕ → Body → Centre → Type 0
  IsDue d body k = y.exact ≡ true → train_of body ≡ y.train
      → (is_plain body || (is_train line (train_of body) && has_place_for line c d k body)) ≡ true

  -- of a body that has something inside
  abbrev pub IsPlaced : ℕ → Body → Centre → Type 0
  IsPlaced d body k = y.exact ≡ true → train_of body ≡ y.train → (is_train line (train_of body) ≡ true)
      × (has_place_for line c d k body ≡ true)

  pub registrar_of : y.exact ≡ true → (t : ℕ) → t ≡ y.train → is_train line t ≡ true → HasRegistrar line y.train
  registrar_of so t here known = (is.back so).registrar (subst (λ v. is_train line v ≡ true) here known)

  pub right_gone : (t : ℕ) (k : Centre) → t ≡ y.train → not (k.has_right t) ≡ true → k.has_right y.train ≡ false
  right_gone t k here gone = ap (λ v. k.has_right v) (sym here) ∙ of_not (k.has_right t) gone
    where
      of_not : (b : Bool) → not b ≡ true → b ≡ false
      of_not true h = cc
      of_not false h = refl

  -- ## Rights

  pub fair_asked : (d t : ℕ) (k : Centre) → IsFrom d → Makes line c y is k (right_asked line c d t k)
  fair_asked d t k from = fair_if line c y (is_registrar_of line c t) k _ (rest k) (λ so. by_right (k.has_right t) refl)
      (λ so. fair_rest line c y k)
    where
      by_right : (b : Bool) → k.has_right t ≡ b
          → Makes line c y is k (if b then (become (λ j. record j { has_right = put j.has_right t false })
          >> send d (GiveRight t)) k else send d (RefuseRight t) k)
      by_right true stands = eased line c y 0 0 k _ (omega (arith, gives_back line c y is c d t))
          (λ exact. omega (arith, gives_back line c y is c d t))
          (fair_then line c y (become (λ j. record j { has_right = put j.has_right t false })) (send d (GiveRight t)) k
          (fair_right_taken line c y is t k stands)
          (sends line c y is d t (GiveRight t) _ refl (λ exact here. (from exact).0)))
      by_right false stands = sends_plain line c y is d (RefuseRight t) k refl

  pub fair_right_returned : (d t : ℕ) (k : Centre) → IsPlaced d (ReturnRight t) k
      → Comes d (ReturnRight t) k (right_returned line c t k)
  fair_right_returned d t k due =
      fair_if line c y (is_registrar_of line c t && (not (k.has_right t) && is_none (k.mission t))) k _ (rest k)
      (λ so. eased line c y _ 0 k _ (omega (arith, returns_back line c y is d c t))
      (λ exact. omega (arith, returns_back line c y is d c t))
      (fair_return_right line c y is t k (λ exact here. (
        right_gone t k here (and_parts (not (k.has_right t)) (is_none (k.mission t))
            (and_parts (is_registrar_of line c t) (not (k.has_right t) && is_none (k.mission t)) so).1).0,
        registrar_of exact t here (due exact here).0,
      ))))
      (λ so. lost d (ReturnRight t) k (rest k) (λ exact here. absurd (let wrong : true ≡ false = sym (due exact here).1
      ∙ so in cc)) (fair_rest line c y k))

-- # Rights are counted: outside a mission, or in one.

pub no_number : (b : Bool) → ◌≡◌ {A = ℕ} (if b then 0 else 0) 0
no_number true = refl
no_number false = refl

abbrev pub rights_tally : Line → ℕ → ℕ → Tally
rights_tally line c t =
    record {
      res = rights line t;
      train = t;
      section = 0;
      one = 1;
      weight = 0;
      waiting = 0;
      away = 0;
      entry = λ e. one_if (is_registrar_of line c t);
      outside = false;
      exact = false;
    }

module _ (line : Line) (c t : ℕ) where
  no_wait : (o : Option Place) → wait_of line (rights_tally line c t) o ≡ 0
  no_wait None = refl
  no_wait (Some place) = no_number (within (covered line place) 0)

  one_mission : (o : Option Mission) → mission_of (rights_tally line c t) o ≡ one_if (is_some o)
  one_mission None = refl
  one_mission (Some m) = omega (arith, no_number (within m.hand 0), no_number (within m.pool 0))

  plain_body : (a b : ℕ) (body : Body) → is_plain body ≡ true → (rights line t).inside a b body ≡ 0
  plain_body a b (AskRight u) h = refl
  plain_body a b (GiveRight u) h = cc
  plain_body a b (RefuseRight u) h = refl
  plain_body a b (ReturnRight u) h = cc
  plain_body a b (RouteAsk u first most) h = refl
  plain_body a b (RouteInfo u r) h = cc
  plain_body a b (RouteWithdraw u s) h = refl
  plain_body a b (RouteReturn u r) h = cc
  plain_body a b (Announce number u track) h = refl
  plain_body a b (Cancel number u) h = refl
  plain_body a b (TakingOver number u) h = refl
  plain_body a b (Yield number u heard has_data is_ended place hand) h = cc

  other_body : (a b : ℕ) (body : Body) → train_of body ≢ t → (rights line t).inside a b body ≡ 0
  other_body a b (AskRight u) h = refl
  other_body a b (GiveRight u) h = ap one_if (ne_eqb u t h)
  other_body a b (RefuseRight u) h = refl
  other_body a b (ReturnRight u) h = ap one_if (ne_eqb u t h)
  other_body a b (RouteAsk u first most) h = refl
  other_body a b (RouteInfo u r) h = refl
  other_body a b (RouteWithdraw u s) h = refl
  other_body a b (RouteReturn u r) h = refl
  other_body a b (Announce number u track) h = refl
  other_body a b (Cancel number u) h = refl
  other_body a b (TakingOver number u) h = refl
  other_body a b (Yield number u heard has_data is_ended place hand) h = ap one_if (ne_eqb u t h)

  none_goes : (u track : ℕ) (r : SectionRun) (k : Centre)
      → sent_by (rights line t) (centre_count line) c (returned line c u track r k).frames ≡ 0
  unfolding sent_by
  none_goes u track r k =
      sum_zero (centre_count line) (λ d. carried (rights line t) c d ((returned line c u track r k).frames d))
      (λ d at. none d ((d == c) || is_empty (shared r (home_run line d track))))
    where
      none : (d : ℕ) (b : Bool)
          → carried (rights line t) c d (if b then [] else RouteReturn u (shared r (home_run line d track)) ∷ []) ≡ 0
      none d true = carried_none (rights line t) c d
      none d false =
          omega (
            arith,
            carried_more (rights line t) c d (RouteReturn u (shared r (home_run line d track))) [],
            carried_none (rights line t) c d,
          )

  pub rights_counted : IsTally line c (rights_tally line c t)
  rights_counted = record {
    held = λ k. omega (arith, no_wait (k.wait t), one_mission (k.mission t));
    cap = λ k. refl;
    plain = plain_body;
    others = other_body;
    gives = λ a b. ap one_if (itself t);
    backs = λ a b. ap one_if (itself t);
    home_goes = λ u track r k. omega (arith, none_goes u track r k);
    unused = λ e g h. omega arith;
    other = λ u e g h used. omega arith;
    light = omega arith;
    opens = λ e home is. (omega arith, omega arith);
    frees = λ e g home is. (omega arith, omega arith);
    waits = λ home. omega arith;
    lends = λ d r e home is. omega arith;
    names = λ a b r out. refl;
    told = λ a r. omega (arith, no_number (within r 0));
    told_back = λ a r. omega arith;
    comes_home = λ a r e g home in_run out. omega arith;
    yields = λ to number heard has_data is_ended place hand e may. omega (arith, one_if_le_one (t == t));
    takes = λ a number heard has_data is_ended place hand e.
        omega (arith, one_if_true (t == t) (itself t), no_number (within hand 0));
    back = λ so. cc;
  }

  -- no name is counted
  pub rights_ready : (k : Centre) → Ready line c (rights_tally line c t) k
  rights_ready k = record { claims = λ so has home. cc; stands = λ so m is. cc }

-- Acts that keep each pending question, one after another, and the smallest of them.
use Rattle.std.proofs.Common.{[], ⊎_elim, ◌&&◌, ◌+◌, ◌<◌, ◌==◌, ◌||◌, ◌∙◌, ◌∷◌, ◌≡◌, ◌≢◌, ◌≤◌, All, ap, arith, Bool}
use Rattle.std.proofs.Common.{false, if◌then◌else◌, List, Option, refl, Some, subst, sym, true, ℕ}
use Rattle.std.proofs.lemmas.Bool.{and_parts, cases_eq, cases_lt}
use Rattle.std.proofs.lemmas.List.Elements.{All-append, All-cons, All-head, All-nil, All-tail, All-weaker}
use Rattle.std.proofs.lemmas.Option.{same_Some}
use Rattle.std.specs.Option.{option_map_or}
use Rattle.law_base.proofs.CountingLemmas.Network.{to_one_other}
use Rattle.law_base.proofs.CountingLemmas.Resource.{carried_more, carried_none, fair_more, fair_seq, sent_single}
use Rattle.law_base.proofs.CountingLemmas.Sums.{put_other, put_same, sum_same, sum_zero}
use Rattle.law_base.proofs.WalkLemmas.Causes.{May}
use Rattle.law_base.proofs.WalkLemmas.Frames.{is_question}
use Rattle.law_base.specs.Counting.Network.{to_one}
use Rattle.law_base.specs.Counting.Resource.{carried, IsFair, Resource, sent_by}
use Rattle.law_base.specs.Counting.Sums.{one_if}
use Rattle.law_invariants.specs.Flow.Flow.{centre_count}
use Rattle.law_invariants.specs.NoUnasked.Asked.{IsBodyAsked, OfRight, OfRoute, Question, questions, stands}
use Rattle.rbc_spec.proofs.Lists.{itself}
use Rattle.rbc_spec.proofs.Places.{homes_run}
use Rattle.rbc_spec.proofs.Runs.{all_within, within_shared}
use Rattle.rbc_spec.specs.Acts.{◌>>◌, Act, booked, Reply, rest, returned, send}
use Rattle.rbc_spec.specs.Centre.{Centre, Entry, Taken}
use Rattle.rbc_spec.specs.Frame.{AskRight, Body, GiveRight, RefuseRight, RouteAsk, RouteInfo, RouteReturn}
use Rattle.rbc_spec.specs.Line.{is_home, IsLine, Line}
use Rattle.rbc_spec.specs.Links.{is_train}
use Rattle.rbc_spec.specs.Maps.{has, put}
use Rattle.rbc_spec.specs.SectionRuns.{all_of, is_empty, SectionRun, shared, within}
use Rattle.rbc_spec.specs.Sections.{home_run, is_on}

-- # Acts that keep requests proper, in order, and the smallest of them.

-- ## The amounts inside frames

module _ (r : Resource Centre Body) (n c : ℕ) where
  nothing_carried : (d : ℕ) (fs : List Body) → All (λ f. r.inside c d f ≡ 0) fs → carried r c d fs ≡ 0
  nothing_carried d [] none = carried_none r c d
  nothing_carried d (f ∷ fs) none = omega (
    arith,
    carried_more r c d f fs,
    All-head (λ g. r.inside c d g ≡ 0) f fs none,
    nothing_carried d fs (All-tail (λ g. r.inside c d g ≡ 0) f fs none),
  )

  pub nothing_sent : (frames : ℕ → List Body) → ((d : ℕ) → All (λ f. r.inside c d f ≡ 0) (frames d))
      → sent_by r n c frames ≡ 0
  unfolding sent_by
  nothing_sent frames none = sum_zero n (λ d. carried r c d (frames d)) (λ d at. nothing_carried d (frames d) (none d))

  one_at_most : (d : ℕ) (body : Body) → sent_by r n c (to_one d (body ∷ [])) ≤ r.inside c d body
  unfolding sent_by
  one_at_most d body = ⊎_elim
      (λ (below : d < n). omega (arith, sent_single r n c d body below))
      (λ (past : n ≤ d). omega (
        arith,
        sum_zero n (λ e. carried r c e (to_one d (body ∷ []) e))
            (λ e at. ap (carried r c e) (to_one_other d (body ∷ []) e (λ same. omega (arith, same, at, past)))
            ∙ carried_none r c e),
      ))
      (cases_lt d n)

  pub one_sent : (d : ℕ) (body : Body) (frames : ℕ → List Body) → ((e : ℕ) → frames e ≡ to_one d (body ∷ []) e)
      → sent_by r n c frames ≤ r.inside c d body
  unfolding sent_by
  one_sent d body frames same = omega (arith, one_at_most d body, alike)
    where
      alike : sent_by r n c frames ≡ sent_by r n c (to_one d (body ∷ []))
      alike = sum_same n (λ e. carried r c e (frames e)) (λ e. carried r c e (to_one d (body ∷ []) e))
          (λ e at. ap (carried r c e) (same e))

-- the amount that arrives with a frame from d to c
abbrev pub comes_with : ℕ → ℕ → Body → Question → ℕ → ℕ
comes_with a c f x d = (questions x d).inside a c f

abbrev pub none_comes : Question → ℕ → ℕ
none_comes x d = 0

-- a body that neither asks nor answers has nothing inside
pub none_inside : (a c : ℕ) (f : Body) → is_question f ≡ false → (x : Question) (d : ℕ) → comes_with a c f x d ≡ 0
none_inside a c (AskRight t) is x d = cc
none_inside a c (GiveRight t) is x d = cc
none_inside a c (RefuseRight t) is x d = cc
none_inside a c (RouteAsk t first most) is x d = cc
none_inside a c (RouteInfo t r) is x d = cc
none_inside a c body is (OfRight u) d = refl
none_inside a c body is (OfRoute u n) d = refl

-- the train of the event is of the line
abbrev pub IsOfLine : Line → May → Type 0
IsOfLine line may = (t : ℕ) → may.train ≡ Some t → is_train line t ≡ true

pub of_line : (line : Line) (may : May) (t : ℕ) → may.train ≡ Some t → is_train line t ≡ true → IsOfLine line may
of_line line may t its known u is = subst (λ v. is_train line v ≡ true) (same_Some t u (sym its ∙ is)) known

module _ (line : Line) (c : ℕ) where
  -- An act of centre c from state k to state y, which sends these frames. It sends at most as many questions and
  -- answers as become pending or arrived.
  pub record IsAsking (came : Question → ℕ → ℕ) (k y : Centre) (frames : ℕ → List Body) : Type 0 where
    pub fair : (x : Question) (d : ℕ) → IsFair (questions x d) (centre_count line) c k (came x d) y frames
    pub bodies : (d : ℕ) → All (IsBodyAsked line c d) (frames d)

  abbrev pub Comes : (Question → ℕ → ℕ) → Centre → Reply → Type 0
  Comes came k q = IsAsking came k q.state q.frames

  abbrev pub Goes : Centre → Reply → Type 0
  Goes k q = Comes none_comes k q

  -- ## Without questions

  -- a body that neither asks nor answers, and is as it has to be
  pub record IsAside (d : ℕ) (f : Body) : Type 0 where
    pub none : is_question f ≡ false
    pub body : IsBodyAsked line c d f

  same_stands : (k y : Centre) → y.has_asked ≡ k.has_asked → y.route_ask ≡ k.route_ask → (x : Question)
      → stands x y ≡ stands x k
  same_stands k y rights routes (OfRight t) = ap (λ (f : ℕ → Bool). f t) rights
  same_stands k y rights routes (OfRoute t first) =
      ap (λ (f : ℕ → Option ℕ). option_map_or (λ n. n == first) (f t) false) routes

  pub aside : (k y : Centre) (frames : ℕ → List Body) → y.has_asked ≡ k.has_asked → y.route_ask ≡ k.route_ask
      → ((d : ℕ) → All (IsAside d) (frames d)) → IsAsking none_comes k y frames
  aside k y frames rights routes sends = record {
    fair = λ x d. record {
      law = omega (
        arith,
        nothing_sent (questions x d) (centre_count line) c frames
            (λ e. All-weaker (IsAside e) (λ f. (questions x d).inside c e f ≡ 0)
            (λ f aside. none_inside c e f aside.none x d) (frames e) (sends e)),
        ap (λ b. one_if ((c == d) && b)) (same_stands k y rights routes x),
      );
    };
    bodies = λ d. All-weaker (IsAside d) (IsBodyAsked line c d) (λ f aside. aside.body) (frames d) (sends d);
  }

  -- requests stay as they are, and nothing is sent
  pub still : (k y : Centre) → y.has_asked ≡ k.has_asked → y.route_ask ≡ k.route_ask
      → Goes k (record { state = y; frames = λ d. []; sayings = []; words = [] })
  still k y rights routes = aside k y (λ d. []) rights routes (λ d. All-nil (IsAside d))

  pub goes_rest : (k : Centre) → Goes k (rest k)
  goes_rest k = still k k refl refl

  pub goes_taken : (test : Entry → Bool) (t : ℕ) (r : SectionRun) (k : Centre) → Goes k (booked test (Taken t) r k)
  goes_taken test t r k = still k (booked test (Taken t) r k).state refl refl

  pub goes_send : (d : ℕ) (body : Body) (k : Centre) → IsAside d body → Goes k (send d body k)
  goes_send d body k none = aside k k (send d body k).frames refl refl (λ e. by_one e)
    where
      by_one : (e : ℕ) → All (IsAside e) (if e == d then body ∷ [] else [])
      by_one e = ⊎_elim
          (λ (here : e ≡ d). subst (λ x. All (IsAside x) (if x == d then body ∷ [] else [])) (sym here) (at_d (d == d)))
          (λ (other : e ≢ d). subst (All (IsAside e)) (sym (to_one_other d (body ∷ []) e other)) (All-nil (IsAside e)))
          (cases_eq e d)
        where
          at_d : (b : Bool) → All (IsAside d) (if b then body ∷ [] else [])
          at_d true = All-cons (IsAside d) body [] none (All-nil (IsAside d))
          at_d false = All-nil (IsAside d)

  pub return_aside : (d t : ℕ) (r : SectionRun) → is_train line t ≡ true → is_empty r ≡ false
      → all_of (is_home line d) r ≡ true → IsAside d (RouteReturn t r)
  return_aside d t r known some home = record { none = refl; body = (known, some, home) }

  pub returned_aside : IsLine line → (t track : ℕ) (r : SectionRun) (k : Centre) → is_train line t ≡ true → (d : ℕ)
      → All (IsAside d) ((returned line c t track r k).frames d)
  returned_aside ok t track r k known d = by_part (d == c) (is_empty part) refl
    where
      part : SectionRun
      part = shared r (home_run line d track)

      homes : all_of (is_home line d) part ≡ true
      homes = all_within (is_home line d) part (λ s in_part.
          (and_parts (is_home line d s) (is_on line track s) (sym (homes_run line d track s ok) ∙
          (and_parts (within r s) (within (home_run line d track) s)
          (sym (within_shared r (home_run line d track) s) ∙ in_part)).1)).0)

      by_part : (own none : Bool) → is_empty part ≡ none
          → All (IsAside d) (if own || none then [] else RouteReturn t part ∷ [])
      by_part true none is = All-nil (IsAside d)
      by_part false true is = All-nil (IsAside d)
      by_part false false is = All-cons (IsAside d) (RouteReturn t part) []
          (return_aside d t part known is homes) (All-nil (IsAside d))

  -- ## One after another

  pub comes_then : (came : Question → ℕ → ℕ) (a b : Act) (k : Centre) → Comes came k (a k)
      → Goes (a k).state (b (a k).state) → Comes came k ((a >> b) k)
  unfolding ◌>>◌
  comes_then came a b k one two = record {
    fair = λ x d. fair_seq (questions x d) (centre_count line) c k (a k).state (b (a k).state).state (came x d)
        (a k).frames (b (a k).state).frames (one.fair x d) (two.fair x d);
    bodies = λ d. All-append (IsBodyAsked line c d) ((a k).frames d) ((b (a k).state).frames d)
        (one.bodies d) (two.bodies d);
  }

  pub goes_then : (a b : Act) (k : Centre) → Goes k (a k) → Goes (a k).state (b (a k).state) → Goes k ((a >> b) k)
  goes_then a b k one two = comes_then none_comes a b k one two

  -- an act by itself is one with an arriving frame too
  pub comes_too : (came : Question → ℕ → ℕ) (k : Centre) (q : Reply) → Goes k q → Comes came k q
  comes_too came k q goes = record {
    fair = λ x d. fair_more (questions x d) (centre_count line) c k q.state 0 (came x d) q.frames
        (omega arith) (goes.fair x d);
    bodies = goes.bodies;
  }

  pub goes_if : {came : Question → ℕ → ℕ} (b : Bool) (k : Centre) (p q : Reply) → (b ≡ true → Comes came k p)
      → (b ≡ false → Comes came k q) → Comes came k (if b then p else q)
  goes_if true k p q one two = one refl
  goes_if false k p q one two = two refl

  -- ## Questions

  -- one body is sent, which asks or answers
  pub sends_one : (came : Question → ℕ → ℕ) (e : ℕ) (body : Body) (k y : Centre) (frames : ℕ → List Body)
      → ((d : ℕ) → frames d ≡ to_one e (body ∷ []) d)
      → ((x : Question) (d : ℕ) → (questions x d).inside c e body + (questions x d).cap c k ≤ came x d
      + (questions x d).cap c y)
      → IsBodyAsked line c e body → IsAsking came k y frames
  sends_one came e body k y frames same counts is = record {
    fair = λ x d.
        record { law = omega (arith, counts x d, one_sent (questions x d) (centre_count line) c e body frames same) };
    bodies = λ d. subst (All (IsBodyAsked line c d)) (sym (same d)) (by_one d);
  }
    where
      by_one : (d : ℕ) → All (IsBodyAsked line c d) (to_one e (body ∷ []) d)
      by_one d = ⊎_elim
          (λ (here : d ≡ e). subst (λ x. All (IsBodyAsked line c x) (to_one e (body ∷ []) x))
          (sym here) (at_e (e == e)))
          (λ (other : d ≢ e). subst (All (IsBodyAsked line c d)) (sym (to_one_other e (body ∷ []) d other))
          (All-nil (IsBodyAsked line c d)))
          (cases_eq d e)
        where
          at_e : (b : Bool) → All (IsBodyAsked line c e) (if b then body ∷ [] else [])
          at_e true = All-cons (IsBodyAsked line c e) body [] is (All-nil (IsBodyAsked line c e))
          at_e false = All-nil (IsBodyAsked line c e)

  -- nothing is sent, and the arriving frame answers a question that is then no longer pending
  pub ends_one : (came : Question → ℕ → ℕ) (k y : Centre)
      → ((x : Question) (d : ℕ) → (questions x d).cap c k ≤ came x d + (questions x d).cap c y)
      → IsAsking came k y (λ d. [])
  ends_one came k y counts = record {
    fair = λ x d.
        record {
          law = omega (
            arith,
            counts x d,
            nothing_sent (questions x d) (centre_count line) c (λ e. [])
                (λ e. All-nil (λ f. (questions x d).inside c e f ≡ 0)),
          );
        };
    bodies = λ d. All-nil (IsBodyAsked line c d);
  }

-- # Each small move keeps requests proper, and each answer takes up the question or the answer that arrived.

-- a question that becomes pending
pub more_stands : (z e o n : Bool) → (z ≡ true → (o ≡ false) × (n ≡ true)) → (z ≡ false → n ≡ o)
    → (one_if (z && e) + 0) + one_if (e && o) ≤ 0 + one_if (e && n)
more_stands true true o n new same = omega (arith, ap one_if (new refl).0, ap one_if (new refl).1)
more_stands true false o n new same = omega arith
more_stands false true o n new same = omega (arith, ap one_if (same refl))
more_stands false false o n new same = omega arith

-- a question that ends, or stays as before
pub less_stands : (z e o n : Bool) → (z ≡ false → n ≡ o) → one_if (e && o) ≤ (0 + one_if (z && e)) + one_if (e && n)
less_stands true true true n same = omega arith
less_stands true true false n same = omega arith
less_stands true false o n same = omega arith
less_stands false true o n same = omega (arith, ap one_if (same refl))
less_stands false false o n same = omega arith

-- at another train nothing changes
pub put_apart : {X : Type 0} (f : ℕ → X) (t : ℕ) (x : X) (u : ℕ) → (t == u) ≡ false → put f t x u ≡ f u
put_apart f t x u other = put_other f t x u (λ is. let wrong : true ≡ false = sym (itself t)
    ∙ ap (λ v. t == v) (sym is) ∙ other in cc)

-- the pending question is for sections from n on
abbrev pub named : ℕ → Option ℕ → Bool
named n o = has (λ q. q == n) o

-- A question for sections is set or taken away for one train. Any other question stays as before, if that train had
-- none or had this one.
pub other_named : (first : ℕ) (asked : ℕ → Option ℕ) (t : ℕ) (new : Option ℕ) (u n : ℕ)
    → ((first == n) ≡ false → named n new ≡ named n (asked t)) → ((t == u) && (first == n)) ≡ false
    → named n (put asked t new u) ≡ named n (asked u)
other_named first asked t new u n same other = ⊎_elim
    (λ (is : t ≡ u). subst (λ v. named n (put asked t new v) ≡ named n (asked v)) is
    (ap (named n) (put_same asked t new)
    ∙ same (sym (ap (λ b. b && (first == n)) (ap (λ v. t == v) (sym is) ∙ itself t)) ∙ other)))
    (λ (apart : t ≢ u). ap (named n) (put_other asked t new u (λ is. apart (sym is))))
    (cases_eq t u)

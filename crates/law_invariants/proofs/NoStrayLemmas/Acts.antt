-- Acts that lose no question, in order, and the smallest of them.
use Rattle.std.proofs.Common.{[], ⊎_elim, ◌&&◌, ◌+◌, ◌<◌, ◌==◌, ◌||◌, ◌∙◌, ◌∷◌, ◌≡◌, ◌≢◌, ◌≤◌, All, ap, arith, Bool}
use Rattle.std.proofs.Common.{false, if◌then◌else◌, is_some, List, None, Option, refl, subst, sym, true, ℕ}
use Rattle.std.proofs.lemmas.Bool.{cases_eq}
use Rattle.std.proofs.lemmas.List.Elements.{All-append, All-cons, All-nil}
use Rattle.std.specs.Option.{option_map_or}
use Rattle.law_base.proofs.CountingLemmas.Network.{to_one_other}
use Rattle.law_base.proofs.CountingLemmas.Resource.{sent_append, sent_single}
use Rattle.law_base.proofs.CountingLemmas.Sums.{put_other, put_same, sum_same}
use Rattle.law_base.specs.Counting.Network.{to_one}
use Rattle.law_base.specs.Counting.Resource.{carried, sent_by}
use Rattle.law_base.specs.Counting.Sums.{one_if}
use Rattle.law_invariants.proofs.NoUnaskedLemmas.Asking.{none_comes}
use Rattle.law_invariants.specs.Flow.Flow.{centre_count}
use Rattle.law_invariants.specs.NoStray.Questions.{HasAsked, HasKnownOuts, IsBodyKnown}
use Rattle.law_invariants.specs.NoUnasked.Asked.{OfRight, OfRoute, Question, questions, stands}
use Rattle.rbc_spec.specs.Acts.{◌>>◌, Act, freed, Reply, rest, returned, send}
use Rattle.rbc_spec.specs.Centre.{Centre, Entry, is_out_for, Open, Shut}
use Rattle.rbc_spec.specs.Frame.{Body, RouteReturn}
use Rattle.rbc_spec.specs.Line.{Line}
use Rattle.rbc_spec.specs.Links.{is_train}
use Rattle.rbc_spec.specs.Maps.{put}
use Rattle.rbc_spec.specs.Place.{Place}
use Rattle.rbc_spec.specs.SectionRuns.{is_empty, SectionRun, shared}
use Rattle.rbc_spec.specs.Sections.{home_run}

-- a change of the book by which no section goes out
abbrev pub LendsNoMore : Centre → Centre → Type 0
LendsNoMore k y = (s t : ℕ) → is_out_for t (y.book s) ≡ true → is_out_for t (k.book s) ≡ true

module _ (line : Line) (c : ℕ) where
  -- An act of centre c from state k to state y, which sends these frames. They ask or answer each question that arrives
  -- or becomes pending.
  pub record IsAnswering (came : Question → ℕ → ℕ) (k y : Centre) (frames : ℕ → List Body) : Type 0 where
    pub law : (x : Question) (d : ℕ) → came x d + (questions x d).cap c y
        ≤ sent_by (questions x d) (centre_count line) c frames + (questions x d).cap c k
    pub bodies : (d : ℕ) → All (IsBodyKnown line c d) (frames d)
    pub outs : HasKnownOuts line k → HasKnownOuts line y
    pub waits : HasAsked k → HasAsked y

  abbrev pub Comes : (Question → ℕ → ℕ) → Centre → Reply → Type 0
  Comes came k q = IsAnswering came k q.state q.frames

  abbrev pub Goes : Centre → Reply → Type 0
  Goes k q = Comes none_comes k q

  -- ## Without questions

  same_stands : (k y : Centre) → y.has_asked ≡ k.has_asked → y.route_ask ≡ k.route_ask → (x : Question)
      → stands x y ≡ stands x k
  same_stands k y rights routes (OfRight t) = ap (λ (f : ℕ → Bool). f t) rights
  same_stands k y rights routes (OfRoute t first) =
      ap (λ (f : ℕ → Option ℕ). option_map_or (λ n. n == first) (f t) false) routes

  -- pending requests stay
  pub aside : (k y : Centre) (frames : ℕ → List Body) → y.has_asked ≡ k.has_asked → y.route_ask ≡ k.route_ask
      → y.wait ≡ k.wait → (HasKnownOuts line k → HasKnownOuts line y)
      → ((d : ℕ) → All (IsBodyKnown line c d) (frames d)) → IsAnswering none_comes k y frames
  aside k y frames rights routes same outs bodies = record {
    law = λ x d. omega (arith, ap (λ b. one_if ((c == d) && b)) (same_stands k y rights routes x));
    bodies = bodies;
    outs = outs;
    waits = λ old. record {
      each = λ t some. ap (λ (f : ℕ → Bool). f t) rights
          ∙ old.each t (sym (ap (λ (f : ℕ → Option Place). is_some (f t)) same) ∙ some);
    };
  }

  pub no_more : (k y : Centre) → LendsNoMore k y → HasKnownOuts line k → HasKnownOuts line y
  no_more k y less old = record { each = λ s t out. old.each s t (less s t out) }

  -- no section goes out, and nothing is sent
  pub still : (k y : Centre) → y.has_asked ≡ k.has_asked → y.route_ask ≡ k.route_ask → y.wait ≡ k.wait → LendsNoMore k y
      → Goes k (record { state = y; frames = λ d. []; sayings = []; words = [] })
  still k y rights routes same less = aside k y (λ d. []) rights routes same (no_more k y less)
      (λ d. All-nil (IsBodyKnown line c d))

  pub goes_rest : (k : Centre) → Goes k (rest k)
  goes_rest k = still k k refl refl refl (λ s t out. out)

  -- an entry that may become another, which is not out
  pub stays_in : (b : Bool) (g e : Entry) (t : ℕ) → is_out_for t g ≡ false → is_out_for t (if b then g else e) ≡ true
      → is_out_for t e ≡ true
  stays_in true g e t none out = absurd (let wrong : false ≡ true = sym none ∙ out in cc)
  stays_in false g e t none out = out

  pub freed_less : (test : Entry → Bool) (r : SectionRun) (k : Centre) → LendsNoMore k (freed line c test r k).state
  freed_less test r k = λ s u out. stays_in _ (if k.wish s then Shut else Open) (k.book s) u (by_wish (k.wish s) u) out
    where
      by_wish : (b : Bool) (u : ℕ) → is_out_for u (if b then Shut else Open) ≡ false
      by_wish true u = refl
      by_wish false u = refl

  pub to_only : (d : ℕ) (body : Body) → IsBodyKnown line c d body → (e : ℕ)
      → All (IsBodyKnown line c e) (to_one d (body ∷ []) e)
  to_only d body is e = ⊎_elim
      (λ (here : e ≡ d). subst (λ x. All (IsBodyKnown line c x) (to_one d (body ∷ []) x)) (sym here) (at_d (d == d)))
      (λ (other : e ≢ d). subst (All (IsBodyKnown line c e)) (sym (to_one_other d (body ∷ []) e other))
      (All-nil (IsBodyKnown line c e)))
      (cases_eq e d)
    where
      at_d : (b : Bool) → All (IsBodyKnown line c d) (if b then body ∷ [] else [])
      at_d true = All-cons (IsBodyKnown line c d) body [] is (All-nil (IsBodyKnown line c d))
      at_d false = All-nil (IsBodyKnown line c d)

  pub goes_send : (d : ℕ) (body : Body) (k : Centre) → IsBodyKnown line c d body → Goes k (send d body k)
  goes_send d body k is = aside k k (send d body k).frames refl refl refl (λ old. old) (to_only d body is)

  pub returned_known : (t track : ℕ) (r : SectionRun) (k : Centre) → is_train line t ≡ true → (d : ℕ)
      → All (IsBodyKnown line c d) ((returned line c t track r k).frames d)
  returned_known t track r k known d = by_part ((d == c) || is_empty part)
    where
      part : SectionRun
      part = shared r (home_run line d track)

      by_part : (b : Bool) → All (IsBodyKnown line c d) (if b then [] else RouteReturn t part ∷ [])
      by_part true = All-nil (IsBodyKnown line c d)
      by_part false = All-cons (IsBodyKnown line c d) (RouteReturn t part) []
          (record { known = known; sent = record {} }) (All-nil (IsBodyKnown line c d))

  -- ## One after another

  pub comes_then : (came : Question → ℕ → ℕ) (a b : Act) (k : Centre) → Comes came k (a k)
      → Goes (a k).state (b (a k).state) → Comes came k ((a >> b) k)
  unfolding ◌>>◌
  comes_then came a b k one two = record {
    law = λ x d.
        omega (
          arith,
          one.law x d,
          two.law x d,
          sent_append (questions x d) (centre_count line) c (a k).frames (b (a k).state).frames,
        );
    bodies = λ d. All-append (IsBodyKnown line c d) ((a k).frames d) ((b (a k).state).frames d)
        (one.bodies d) (two.bodies d);
    outs = λ old. two.outs (one.outs old);
    waits = λ old. two.waits (one.waits old);
  }

  pub goes_then : (a b : Act) (k : Centre) → Goes k (a k) → Goes (a k).state (b (a k).state) → Goes k ((a >> b) k)
  goes_then a b k one two = comes_then none_comes a b k one two

  -- ## Questions

  one_sent : (x : Question) (d e : ℕ) (body : Body) (frames : ℕ → List Body) → e < centre_count line
      → ((i : ℕ) → frames i ≡ to_one e (body ∷ []) i)
      → sent_by (questions x d) (centre_count line) c frames ≡ (questions x d).inside c e body
  unfolding sent_by
  one_sent x d e body frames below same = alike ∙ sent_single (questions x d) (centre_count line) c e body below
    where
      alike : sent_by (questions x d) (centre_count line) c frames
          ≡ sent_by (questions x d) (centre_count line) c (to_one e (body ∷ []))
      alike = sum_same (centre_count line) (λ i. carried (questions x d) c i (frames i))
          (λ i. carried (questions x d) c i (to_one e (body ∷ []) i))
          (λ i at. ap (carried (questions x d) c i) (same i))

  -- one body is sent to a centre of the line, which asks or answers
  pub sends_one : (came : Question → ℕ → ℕ) (e : ℕ) (body : Body) (k y : Centre) (frames : ℕ → List Body)
      → e < centre_count line → ((d : ℕ) → frames d ≡ to_one e (body ∷ []) d)
      → ((x : Question) (d : ℕ) → came x d + (questions x d).cap c y ≤ (questions x d).inside c e body
      + (questions x d).cap c k)
      → IsBodyKnown line c e body → (HasKnownOuts line k → HasKnownOuts line y) → (HasAsked k → HasAsked y)
      → IsAnswering came k y frames
  sends_one came e body k y frames below same counts is outs waits = record {
    law = λ x d. omega (arith, counts x d, one_sent x d e body frames below same);
    bodies = λ d. subst (All (IsBodyKnown line c d)) (sym (same d)) (to_only e body is d);
    outs = outs;
    waits = waits;
  }

  -- nothing is sent, and the arriving frame answers a question that is then no longer pending
  pub ends_one : (came : Question → ℕ → ℕ) (k y : Centre)
      → ((x : Question) (d : ℕ) → came x d + (questions x d).cap c y ≤ (questions x d).cap c k) → LendsNoMore k y
      → (HasAsked k → HasAsked y)
      → IsAnswering came k y (λ d. [])
  ends_one came k y counts less waits = record {
    law = λ x d. omega (arith, counts x d);
    bodies = λ d. All-nil (IsBodyKnown line c d);
    outs = no_more k y less;
    waits = waits;
  }

-- a start that waits no more
pub waits_no_more : (t : ℕ) (f : ℕ → Option Place) (u : ℕ) → is_some (put f t None u) ≡ true
    → (u ≢ t) × (is_some (f u) ≡ true)
waits_no_more t f u some = ⊎_elim
    (λ (here : u ≡ t). absurd (let wrong : true ≡ false = sym some
    ∙ (ap (λ v. is_some (put f t None v)) here ∙ ap is_some (put_same f t None)) in cc))
    (λ (other : u ≢ t). (other, sym (ap is_some (put_other f t None u other)) ∙ some))
    (cases_eq u t)

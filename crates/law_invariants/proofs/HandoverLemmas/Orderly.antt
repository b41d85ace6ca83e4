-- Orderly acts in order, and the smallest of them.
use Rattle.std.proofs.Common.{[], ⊎_elim, ◌+◌, ◌<◌, ◌==◌, ◌||◌, ◌∙◌, ◌∷◌, ◌≡◌, ◌≢◌, ◌≤◌, ◌⊎◌, All, ap, arith, Bool}
use Rattle.std.proofs.Common.{false, if◌then◌else◌, inl, inr, List, None, Option, option_map, refl, Some, subst, subst₂}
use Rattle.std.proofs.Common.{sym, true, ℕ}
use Rattle.std.proofs.lemmas.Bool.{cases_eq}
use Rattle.std.proofs.lemmas.List.Elements.{All-cons, All-nil, All-weaker}
use Rattle.std.specs.Option.{option_map_or}
use Rattle.law_base.proofs.CountingLemmas.Chain.{chain_none, chain_one, chain_sent, chain_still}
use Rattle.law_base.proofs.CountingLemmas.Network.{to_one_other, to_one_same}
use Rattle.law_base.proofs.CountingLemmas.Sums.{one_if_le_one, put_other, put_same}
use Rattle.law_base.specs.Counting.Chain.{Chain}
use Rattle.law_base.specs.Counting.Network.{to_one}
use Rattle.law_base.specs.Counting.Sums.{one_if}
use Rattle.law_invariants.proofs.FlowLemmas.Kept.{count_append, count_none}
use Rattle.law_invariants.specs.Flow.Keeping.{IsApart, IsNeutral}
use Rattle.law_invariants.specs.Flow.Pairs.{announces, count_if, follows, handing_to, takes_over, yields}
use Rattle.law_invariants.specs.Handover.Orderly.{Allowance, IsOrderly, IsOrderlyWith, none_allowed, number_announced}
use Rattle.law_invariants.specs.Handover.Orderly.{number_expected, waiting}
use Rattle.rbc_spec.specs.Acts.{◌>>◌, Act, change_mission, Reply, rest, returned, send, set_mission}
use Rattle.rbc_spec.specs.Centre.{Centre, Expectation, Handing, Mission}
use Rattle.rbc_spec.specs.Frame.{Body, RouteReturn}
use Rattle.rbc_spec.specs.Line.{Line}
use Rattle.rbc_spec.specs.Maps.{put}
use Rattle.rbc_spec.specs.SectionRuns.{is_empty, SectionRun, shared}
use Rattle.rbc_spec.specs.Sections.{home_run}

module _ where
  abbrev pub Goes : Centre → Reply → Type 0
  Goes k q = IsOrderly k q.state q.frames

  -- ## Without a part in a handover

  pub apart : (k y : Centre) (frames : ℕ → List Body) → IsApart k y → ((d : ℕ) → All IsNeutral (frames d))
      → IsOrderly k y frames
  apart k y frames is sends = record {
    leads = λ d t. subst (λ o. Chain (follows t) (frames d) (number_announced (handing_to d (k.mission t)))
        (number_announced o)) (sym (is.handing d t))
        (chain_still (follows t) (frames d) (number_announced (handing_to d (k.mission t)))
        (All-weaker IsNeutral (λ f. follows t f (number_announced (handing_to d (k.mission t)))
        ≡ Some (number_announced (handing_to d (k.mission t))))
        (λ f none. none.follows t (number_announced (handing_to d (k.mission t)))) (frames d) (sends d)));
    expected = λ a t. ap number_expected (is.expects a t);
    announced = omega (arith, is.announced);
    yielded =
        λ d t h. inl (count_none (yields t h) (frames d)
        (All-weaker IsNeutral (λ f. yields t h f ≡ false) (λ f none. none.yields t h) (frames d) (sends d)));
    anew = λ d t h.
        inl (count_none (announces t h) (frames d)
        (All-weaker IsNeutral (λ f. announces t h f ≡ false) (λ f none. none.announces t h) (frames d) (sends d)));
    takes = λ a t h.
        omega (
          arith,
          ap (waiting h) (is.expects a t),
          count_none (takes_over t h) (frames a)
              (All-weaker IsNeutral (λ f. takes_over t h f ≡ false) (λ f none. none.takes_over t h)
              (frames a) (sends a)),
        );
  }

  -- the announced and expected handovers stay, and nothing is sent
  pub still : (k y : Centre) → y.expects ≡ k.expects → y.announced ≡ k.announced → y.mission ≡ k.mission
      → IsOrderly k y (λ d. [])
  still k y expects announced mission = apart k y (λ d. [])
      (record {
        expects = λ a t. ap (λ (f : ℕ → ℕ → Option Expectation). f a t) expects;
        announced = announced;
        handing = λ b t. ap (λ (f : ℕ → Option Mission). handing_to b (f t)) mission;
      })
      (λ d. All-nil IsNeutral)

  pub goes_rest : (k : Centre) → Goes k (rest k)
  goes_rest k = still k k refl refl refl

  pub goes_send : (d : ℕ) (body : Body) (k : Centre) → IsNeutral body → Goes k (send d body k)
  goes_send d body k neutral =
      apart k k (send d body k).frames (record { expects = λ a t. refl; announced = refl; handing = λ b t. refl })
      (λ e. by_one (e == d))
    where
      by_one : (b : Bool) → All IsNeutral (if b then body ∷ [] else [])
      by_one true = All-cons IsNeutral body [] neutral (All-nil IsNeutral)
      by_one false = All-nil IsNeutral

  pub goes_returned : (line : Line) (c t track : ℕ) (r : SectionRun) (k : Centre) → Goes k (returned line c t track r k)
  goes_returned line c t track r k = apart k k (returned line c t track r k).frames
      (record { expects = λ a u. refl; announced = refl; handing = λ b u. refl })
      (λ d. by_part ((d == c) || is_empty (shared r (home_run line d track))) (shared r (home_run line d track)))
    where
      by_part : (b : Bool) (p : SectionRun) → All IsNeutral (if b then [] else RouteReturn t p ∷ [])
      by_part true p = All-nil IsNeutral
      by_part false p = All-cons IsNeutral (RouteReturn t p) []
          (record { follows = λ u n. refl; announces = λ u h. refl; takes_over = λ u h. refl; yields = λ u h. refl })
          (All-nil IsNeutral)

  -- a train's mission with the same handover
  pub goes_set : (t : ℕ) (o : Option Mission) (k : Centre) → ((b : ℕ) → handing_to b o ≡ handing_to b (k.mission t))
      → Goes k (set_mission t o k)
  goes_set t o k same = apart k (set_mission t o k).state (λ d. [])
      (record { expects = λ a u. refl; announced = refl; handing = λ b u. at_train b u }) (λ d. All-nil IsNeutral)
    where
      at_train : (b u : ℕ) → handing_to b (put k.mission t o u) ≡ handing_to b (k.mission u)
      at_train b u = ⊎_elim
          (λ (here : u ≡ t). subst (λ x. handing_to b (put k.mission t o x) ≡ handing_to b (k.mission x)) (sym here)
          (ap (handing_to b) (put_same k.mission t o) ∙ same b))
          (λ (other : u ≢ t). ap (handing_to b) (put_other k.mission t o u other))
          (cases_eq u t)

  pub handing_mission : (b : ℕ) (m n : Mission) → n.handing ≡ m.handing → handing_to b (Some n) ≡ handing_to b (Some m)
  handing_mission b m n same =
      ap (λ (o : Option Handing). option_map_or (λ h. if h.to == b then Some h else None) o None) same

  pub goes_set_some : (t : ℕ) (m n : Mission) (k : Centre) → k.mission t ≡ Some m → n.handing ≡ m.handing
      → Goes k (set_mission t (Some n) k)
  goes_set_some t m n k at same = goes_set t (Some n) k (λ b. handing_mission b m n same ∙ ap (handing_to b) (sym at))

  pub goes_change : (t : ℕ) (f : Mission → Mission) (k : Centre) → ((m : Mission) → (f m).handing ≡ m.handing)
      → Goes k (change_mission t f k)
  goes_change t f k keeps = goes_set t (option_map f (k.mission t)) k (λ b. at_one b (k.mission t))
    where
      at_one : (b : ℕ) (o : Option Mission) → handing_to b (option_map f o) ≡ handing_to b o
      at_one b None = refl
      at_one b (Some m) = handing_mission b m (f m) (keeps m)

  -- ## One after another

  -- with a wider allowance for Yields
  abbrev pub GoesWith : Allowance → Centre → Reply → Type 0
  GoesWith allow k q = IsOrderlyWith allow k q.state q.frames

  pub loosened : (allow : Allowance) (k y : Centre) (frames : ℕ → List Body) → IsOrderly k y frames
      → IsOrderlyWith allow k y frames
  loosened allow k y frames is = record {
    leads = is.leads;
    expected = is.expected;
    announced = is.announced;
    yielded = λ d t h. ⊎_elim (λ (none : count_if (yields t h) (frames d) ≡ 0). inl none)
        (λ (so : false ≡ true). cc) (is.yielded d t h);
    anew = is.anew;
    takes = is.takes;
  }

  pub goes_then_with : (allow : Allowance) (a b : Act) (k : Centre) → GoesWith allow k (a k)
      → GoesWith allow (a k).state (b (a k).state) → GoesWith allow k ((a >> b) k)
  unfolding ◌>>◌
  goes_then_with allow a b k one two = record {
    leads = λ d t. chain_sent (follows t) (fs d) (gs d) _ _ _ (one.leads d t) (two.leads d t);
    expected = λ i t. two.expected i t ∙ one.expected i t;
    announced = omega (arith, one.announced, two.announced);
    yielded = λ d t h. ⊎_elim
        (λ (none : count_if (yields t h) (fs d) ≡ 0). ⊎_elim
        (λ (no_more : count_if (yields t h) (gs d) ≡ 0).
        inl (omega (arith, none, no_more, count_append (yields t h) (fs d) (gs d))))
        (λ (so : allow d t h ≡ true). inr so)
        (two.yielded d t h))
        (λ (so : allow d t h ≡ true). inr so)
        (one.yielded d t h);
    anew = λ d t h. ⊎_elim
        (λ (none : count_if (announces t h) (fs d) ≡ 0). ⊎_elim
        (λ (no_more : count_if (announces t h) (gs d) ≡ 0).
        inl (omega (arith, none, no_more, count_append (announces t h) (fs d) (gs d))))
        (λ (some : ((a k).state.announced < h) × (h ≤ (b (a k).state).state.announced)
        × (count_if (announces t h) (gs d) ≤ 1)).
        inr (
          omega (arith, some.0, one.announced),
          some.1,
          omega (arith, none, some.2, count_append (announces t h) (fs d) (gs d)),
        ))
        (two.anew d t h))
        (λ (first : (k.announced < h) × (h ≤ (a k).state.announced) × (count_if (announces t h) (fs d) ≤ 1)). ⊎_elim
        (λ (no_more : count_if (announces t h) (gs d) ≡ 0).
        inr (
          first.0,
          omega (arith, first.1, two.announced),
          omega (arith, first.2, no_more, count_append (announces t h) (fs d) (gs d)),
        ))
        (λ (some : ((a k).state.announced < h) × (h ≤ (b (a k).state).state.announced)
        × (count_if (announces t h) (gs d) ≤ 1)).
        absurd (let no : ⊥ = omega (arith, first.1, some.0) in no))
        (two.anew d t h))
        (one.anew d t h);
    takes = λ i t h. omega (arith, one.takes i t h, two.takes i t h, count_append (takes_over t h) (fs i) (gs i));
  }
    where
      fs : ℕ → List Body
      fs = (a k).frames

      gs : ℕ → List Body
      gs = (b (a k).state).frames

  pub goes_then : (a b : Act) (k : Centre) → Goes k (a k) → Goes (a k).state (b (a k).state) → Goes k ((a >> b) k)
  goes_then a b k one two = goes_then_with none_allowed a b k one two

  pub goes_or : {X : Type 0} (o : Option X) (f : X → Reply) (k : Centre) (q : Reply)
      → ((x : X) → o ≡ Some x → Goes k (f x)) → (o ≡ None → Goes k q) → Goes k (option_map_or f o q)
  goes_or None f k q some none = none refl
  goes_or (Some x) f k q some none = some x refl

  -- ## A frame about one handover

  -- the act sends only this body, to centre d, about the handover of train t to d
  pub record IsSent (allow : Allowance) (d t : ℕ) (body : Body) (k y : Centre) : Type 0 where
    pub follows_other : (u : ℕ) (n : Option ℕ) → u ≢ t → follows u body n ≡ Some n
    pub announces_other : (u h : ℕ) → u ≢ t → announces u h body ≡ false
    pub yields_other : (u h : ℕ) → u ≢ t → yields u h body ≡ false
    pub takes_none : (u h : ℕ) → takes_over u h body ≡ false
    pub other_train : (u : ℕ) → u ≢ t → y.mission u ≡ k.mission u
    pub other_centre : (e : ℕ) → e ≢ d → handing_to e (y.mission t) ≡ handing_to e (k.mission t)
    pub leads : follows t body (number_announced (handing_to d (k.mission t)))
        ≡ Some (number_announced (handing_to d (y.mission t)))
    pub yielded : (h : ℕ) → (yields t h body ≡ false) ⊎ (allow d t h ≡ true)
    pub announced : k.announced ≤ y.announced
    pub anew : (h : ℕ) → (announces t h body ≡ false) ⊎ ((k.announced < h) × (h ≤ y.announced))
    pub expects : y.expects ≡ k.expects

  pub goes_sent : (allow : Allowance) (d t : ℕ) (body : Body) (k y : Centre) (frames : ℕ → List Body)
      → IsSent allow d t body k y → ((e : ℕ) → frames e ≡ to_one d (body ∷ []) e) → IsOrderlyWith allow k y frames
  goes_sent allow d t body k y frames is same = record {
    leads = λ e u. by_link e u (λ v f x z. Chain (follows v) f (number_announced x) (number_announced z))
        (chain_one (follows t) body _ _ is.leads)
        (λ other. subst (λ (o : Option Mission). Chain (follows u) (body ∷ [])
        (number_announced (handing_to d (k.mission u))) (number_announced (handing_to d o)))
        (sym (is.other_train u other))
        (chain_one (follows u) body _ _ (is.follows_other u _ other)))
        (λ away. subst (λ o. Chain (follows u) [] (number_announced (handing_to e (k.mission u))) (number_announced o))
        (sym (elsewhere e u away)) (chain_none (follows u) _));
    expected = λ a u. ap (λ (f : ℕ → ℕ → Option Expectation). number_expected (f a u)) is.expects;
    announced = is.announced;
    yielded = λ e u h. ⊎_elim
        (λ (here : e ≡ d). ⊎_elim
        (λ (train : u ≡ t). ⊎_elim
        (λ (none : yields t h body ≡ false).
        inl (ap (count_if (yields u h)) (same e ∙ ap (λ x. to_one d (body ∷ []) x) here ∙ to_one_same d (body ∷ []))
        ∙ ap (λ v. one_if (yields v h body) + 0) train ∙ ap (λ b. one_if b + 0) none))
        (λ (so : allow d t h ≡ true). inr (subst₂ (λ x v. allow x v h ≡ true) (sym here) (sym train) so))
        (is.yielded h))
        (λ (other : u ≢ t). inl (ap (count_if (yields u h)) (same e ∙ ap (λ x. to_one d (body ∷ []) x) here
        ∙ to_one_same d (body ∷ [])) ∙ ap (λ b. one_if b + 0) (is.yields_other u h other)))
        (cases_eq u t))
        (λ (away : e ≢ d). inl (ap (count_if (yields u h)) (same e ∙ to_one_other d (body ∷ []) e away)))
        (cases_eq e d);
    anew = λ e u h. by_link e u (λ v f x z. (count_if (announces v h) f ≡ 0)
        ⊎ ((k.announced < h) × (h ≤ y.announced) × (count_if (announces v h) f ≤ 1)))
        (⊎_elim (λ (none : announces t h body ≡ false). inl (omega (arith, ap one_if none)))
        (λ (some : (k.announced < h) × (h ≤ y.announced)).
        inr (some.0, some.1, omega (arith, one_if_le_one (announces t h body)))) (is.anew h))
        (λ other. inl (omega (arith, ap one_if (is.announces_other u h other))))
        (λ away. inl refl);
    takes = λ e u h. by_link e u (λ v f x z. waiting h (y.expects e u) + count_if (takes_over u h) f
        ≤ waiting h (k.expects e u)) (one_body e u h) (λ other. one_body e u h)
        (λ away. omega (arith, ap (λ (f : ℕ → ℕ → Option Expectation). waiting h (f e u)) is.expects));
  }
    where
      elsewhere : (e u : ℕ) → e ≢ d → handing_to e (y.mission u) ≡ handing_to e (k.mission u)
      elsewhere e u other = ⊎_elim
          (λ (here : u ≡ t). subst (λ x. handing_to e (y.mission x) ≡ handing_to e (k.mission x)) (sym here)
          (is.other_centre e other))
          (λ (apart_from : u ≢ t). ap (handing_to e) (is.other_train u apart_from))
          (cases_eq u t)

      by_link : (e u : ℕ) (P : ℕ → List Body → Option Handing → Option Handing → Type 0)
          → P t (body ∷ []) (handing_to d (k.mission t)) (handing_to d (y.mission t))
          → (u ≢ t → P u (body ∷ []) (handing_to d (k.mission u)) (handing_to d (y.mission u)))
          → (e ≢ d → P u [] (handing_to e (k.mission u)) (handing_to e (y.mission u)))
          → P u (frames e) (handing_to e (k.mission u)) (handing_to e (y.mission u))
      by_link e u P at other away = ⊎_elim
          (λ (here : e ≡ d). subst (λ x. P u (frames x) (handing_to x (k.mission u)) (handing_to x (y.mission u)))
          (sym here)
          (subst (λ f. P u f (handing_to d (k.mission u)) (handing_to d (y.mission u)))
          (sym (same d ∙ to_one_same d (body ∷ [])))
          (⊎_elim (λ (train : u ≡ t).
          subst (λ v. P v (body ∷ []) (handing_to d (k.mission v)) (handing_to d (y.mission v))) (sym train) at)
          (λ (apart_from : u ≢ t). other apart_from) (cases_eq u t))))
          (λ (there : e ≢ d). subst (λ f. P u f (handing_to e (k.mission u)) (handing_to e (y.mission u)))
          (sym (same e ∙ to_one_other d (body ∷ []) e there)) (away there))
          (cases_eq e d)

      one_body : (e u h : ℕ) → waiting h (y.expects e u) + count_if (takes_over u h) (body ∷ [])
          ≤ waiting h (k.expects e u)
      one_body e u h =
          omega (
            arith,
            ap (λ (f : ℕ → ℕ → Option Expectation). waiting h (f e u)) is.expects,
            ap one_if (is.takes_none u h),
          )

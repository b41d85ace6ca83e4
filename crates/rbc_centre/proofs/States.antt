-- Laws of the states of sections and trains.
use Rattle.std.proofs.Common.{[], ◌<◌, ◌==◌, ◌∙◌, ◌∷◌, ◌≡◌, ◌≢◌, ap, arith, Bool, false, inl, inr, length, List, None}
use Rattle.std.proofs.Common.{Option, option_and_then, refl, set, slice_get, Some, subst, suc, sym, zero, ℕ}
use Rattle.std.proofs.lemmas.Bool.Decides.{eqb_tells, nat_tests}
use Rattle.std.proofs.lemmas.List.Quantifiers.{position-Some}
use Rattle.std.specs.Option.{option_map_or}
use Rattle.rbc_centre.specs.State.{IsOfTrain, of_trains, right_at}
use Rattle.rbc_hand.specs.Hands.{Holding}
use Rattle.rbc_right.specs.Rights.{is_here, Rights}
use Rattle.rbc_session.specs.declared.session.SessionState.{SessionState}
use Rattle.rbc_session.specs.Sessions.{Records}
use Rattle.rbc_spec.specs.Centre.{Phase}
use Rattle.rbc_spec.specs.Line.{is_home, Line, Train, train_number}
use Rattle.rbc_spec.specs.Maps.{put}
use Rattle.rbc_train.proofs.SessionStates.{stands_for_train, stands_with_train}
use Rattle.rbc_train.specs.declared.train.TrainState.{TrainState}
use Rattle.rbc_train.specs.rbc_allocation.Sections.{IsHeldAt}
use Rattle.rbc_train.specs.rbc_pending_start.Waits.{IsCovered, WaitState}
use Rattle.rbc_train.specs.SessionStates.{Enters, Stands}

-- ## Lists

pub slice_get-set_same : {X : Type 0} (xs : List X) (i : ℕ) (x : X) → i < length xs → slice_get (set xs i x) i ≡ Some x
slice_get-set_same [] i x h = absurd (let no : ⊥ = omega arith in no)
slice_get-set_same (y ∷ ys) zero x h = refl
slice_get-set_same (y ∷ ys) (suc i) x h = slice_get-set_same ys i x (omega arith)

pub slice_get-set_other : {X : Type 0} (xs : List X) (i j : ℕ) (x : X) → j ≢ i
    → slice_get (set xs i x) j ≡ slice_get xs j
slice_get-set_other [] i j x h = refl
slice_get-set_other (y ∷ ys) zero zero x h = absurd (h refl)
slice_get-set_other (y ∷ ys) zero (suc j) x h = refl
slice_get-set_other (y ∷ ys) (suc i) zero x h = refl
slice_get-set_other (y ∷ ys) (suc i) (suc j) x h = slice_get-set_other ys i j x (λ e. h (ap suc e))

-- ## One train changes

no_train : Train
no_train = record { nid_engine = 0; registrar = 0 }

-- two trains with one number in the line file are one
pub same_train : (line : Line) (t u i : ℕ) → train_number line t ≡ Some i → train_number line u ≡ Some i → u ≡ t
same_train line t u i h g =
    let p = no_train in
    let a = position-Some (λ (q : Train). q.nid_engine == t) line.trains i p h in
    let b = position-Some (λ (q : Train). q.nid_engine == u) line.trains i p g in
    grind (arith, nat_tests)

module _ {X : Type 0} (part : TrainState → X) (none : X) where
  abbrev part_at : List TrainState → Option ℕ → X
  part_at states number = option_map_or part (option_and_then (λ j. slice_get states j) number) none

  changed : (states : List TrainState) (i : ℕ) (new : TrainState) (number : Option ℕ) → number ≡ Some i
      → i < length states → part_at (set states i new) number ≡ part new
  changed states i new number h within =
      ap (part_at (set states i new)) h ∙ ap (λ o. option_map_or part o none) (slice_get-set_same states i new within)

  unchanged : (states : List TrainState) (i : ℕ) (new : TrainState) (number : Option ℕ) → number ≢ Some i
      → part_at (set states i new) number ≡ part_at states number
  unchanged states i new (Some j) h =
      ap (λ o. option_map_or part o none) (slice_get-set_other states i j new (λ e. h (ap (λ k. Some k) e)))
  unchanged states i new None h = refl

  -- a change at a train's number changes only the state of that train
  pub of_trains-set : (line : Line) (states : List TrainState) (t i : ℕ) (state : TrainState)
      → train_number line t ≡ Some i → i < length states → (u : ℕ)
      → of_trains part none line (set states i state) u ≡ put (of_trains part none line states) t (part state) u
  of_trains-set line states t i state h within u =
      elim (eqb_tells u t) as (λ _. of_trains part none line (set states i state) u
      ≡ put (of_trains part none line states) t (part state) u) [
        | inl e ↦ rw (e.0) (changed states i state (train_number line u) (ap (train_number line) (e.1) ∙ h) within)
        | inr e ↦ rw (e.0) (unchanged states i state (train_number line u) (λ g. e.1 (same_train line t u i h g)))
      ]

-- the right of one train of the line changes
pub right_turned : (line : Line) (old new : Rights) (t i : ℕ) (b : Bool) → train_number line t ≡ Some i
    → ((j : ℕ) → is_here new j ≡ put (is_here old) i b j)
    → (u : ℕ) → right_at line new u ≡ put (right_at line old) t b u
right_turned line old new t i b h turned u =
    elim (eqb_tells u t) as (λ _. right_at line new u ≡ put (right_at line old) t b u) [
      | inl e ↦
          rw (e.0) (ap (λ o. option_map_or (is_here new) o false) (ap (train_number line) (e.1) ∙ h) ∙ turned i ∙ here)
      | inr e ↦ rw (e.0) (elsewhere (train_number line u) (λ g. e.1 (same_train line t u i h g)))
    ]
  where
    here : put (is_here old) i b i ≡ b
    here =
        elim (eqb_tells i i) as (λ _. put (is_here old) i b i ≡ b) [ inl e ↦ rw (e.0) refl | inr e ↦ absurd (e.1 refl) ]

    elsewhere : (number : Option ℕ) → number ≢ Some i
        → option_map_or (is_here new) number false ≡ option_map_or (is_here old) number false
    elsewhere None apart = refl
    elsewhere (Some j) apart = turned j ∙ elim (eqb_tells j i) as (λ _. put (is_here old) i b j ≡ is_here old j) [
      | inl e ↦ absurd (apart (ap (λ k. Some k) (e.1)))
      | inr e ↦ rw (e.0) refl
    ]

-- ## The state of a train

-- the number of a train of the line is one of those kept
pub number_within : (line : Line) (states : List TrainState) (t i : ℕ) → train_number line t ≡ Some i
    → length states ≡ length line.trains → i < length states
number_within line states t i h each = let w =
    position-Some (λ (q : Train). q.nid_engine == t) line.trains i no_train h in omega (arith, w.0)

pub part_of_train : {X : Type 0} (part : TrainState → X) (none : X) (line : Line) (states : List TrainState) (t i : ℕ)
    (state : TrainState) → train_number line t ≡ Some i → slice_get states i ≡ Some state
    → part state ≡ of_trains part none line states t
part_of_train part none line states t i state number at =
    sym (ap (λ n. option_map_or part (option_and_then (λ j. slice_get states j) n) none) number
    ∙ ap (λ o. option_map_or part o none) at)

pub part_of_foreign : {X : Type 0} (part : TrainState → X) (none : X) (line : Line) (states : List TrainState) (t : ℕ)
    → train_number line t ≡ None → none ≡ of_trains part none line states t
part_of_foreign part none line states t number =
    sym (ap (λ n. option_map_or part (option_and_then (λ j. slice_get states j) n) none) number)

-- a property of each state, after a change of one
pub each_after : (P : ℕ → TrainState → Type 0) (states : List TrainState) (i : ℕ) (new : TrainState)
    → i < length states → P i new
    → ((j : ℕ) (p : TrainState) → j ≢ i → slice_get states j ≡ Some p → P j p) → (j : ℕ) (p : TrainState)
    → slice_get (set states i new) j ≡ Some p → P j p
each_after P states i new within here others j p found = elim (eqb_tells j i) as (λ _. P j p) [
  | inl e ↦
      let at : Some new ≡ Some p =
      sym (slice_get-set_same states i new within) ∙ ap (slice_get (set states i new)) (sym (e.1)) ∙ found in
      let is : new ≡ p = cc in
      subst (λ (n : ℕ). P n p) (sym (e.1)) (subst (P i) is here)
  | inr e ↦ others j p (e.1) (sym (slice_get-set_other states i j new (e.1)) ∙ found)
]

-- the number of a train of the line is its own
pub other_train : (line : Line) (t u i j : ℕ) → train_number line t ≡ Some i → train_number line u ≡ Some j
    → j ≢ i → u ≢ t
other_train line t u i j at_t at_u apart same =
    apart (let e : Some j ≡ Some i = sym at_u ∙ ap (train_number line) same ∙ at_t in cc)

-- a property of each train of the line, by its number, after a change of one
pub each_train_after : (P : ℕ → ℕ → TrainState → Type 0) (line : Line) (states : List TrainState) (t i : ℕ)
    (state : TrainState) → i < length states → train_number line t ≡ Some i → P t i state
    → ((u j : ℕ) (p : TrainState) → u ≢ t → train_number line u ≡ Some j → slice_get states j ≡ Some p → P u j p)
    → (u j : ℕ) (p : TrainState) → train_number line u ≡ Some j → slice_get (set states i state) j ≡ Some p → P u j p
each_train_after P line states t i state within at_t here each u j p at_u found =
    each_after (λ n q. train_number line u ≡ Some n → P u n q) states i state within
    (λ at. subst (λ (x : ℕ). P x i state) (same_train line u t i at at_t) here)
    (λ n q apart at number. each u n q (other_train line t u i n at_t number apart) number at)
    j p found at_u

-- the state of another train, if one has changed
pub stands_beside : (line : Line) (c : ℕ) (old new : Records) (s : SessionState) (t u j : ℕ) (p : TrainState)
    (phase : Phase) → Enters old new s t phase → u ≢ t
    → IsOfTrain line c old u j p → IsOfTrain line c new u j p
stands_beside line c old new s t u j p phase enters apart is = record {
  number = is.number;
  engine = is.engine;
  waiting = is.waiting;
  covers = is.covers;
  held = is.held;
  expected = is.expected;
  session =
      stands_with_train new p.session_state u
      (enters.others p.session_state u apart (stands_for_train old p.session_state u is.session));
}

-- a train that is asked for a section stays the one that it was
pub asked_train : (line : Line) (c : ℕ) (sessions : Records) (t i : ℕ) (before after : TrainState)
    → IsOfTrain line c sessions t i before → after.supervision.number ≡ before.supervision.number
    → after.supervision.engine ≡ before.supervision.engine → after.waiting ≡ before.waiting
    → after.session_state ≡ before.session_state
    → after.supervision.hand ≡ before.supervision.hand → after.expectations ≡ before.expectations
    → IsOfTrain line c sessions t i after
asked_train line c sessions t i before after was number engine waiting session_state hand expects = record {
  number = number ∙ was.number;
  engine = engine ∙ was.engine;
  waiting = ap (λ (w : WaitState). w.engine) waiting ∙ was.waiting;
  covers = subst (IsCovered line) (sym waiting) was.covers;
  held = subst (λ (u : ℕ). IsHeldAt u (is_home line c) after.supervision.hand) (sym engine)
      (subst (λ (h : Holding). IsHeldAt before.supervision.engine (is_home line c) h) (sym hand) was.held);
  expected = ap length expects ∙ was.expected;
  session = subst (λ (x : SessionState). Stands sessions x t) (sym session_state) was.session;
}

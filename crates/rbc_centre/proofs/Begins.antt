-- A centre at its beginning.
use Rattle.std.proofs.Common.{[], ◌++◌, ◌<◌, ◌==◌, ◌∙◌, ◌∷◌, ◌≡◌, ◌≤◌, All, ap, arith, eqb-true, false, get_or, inl}
use Rattle.std.proofs.Common.{inr, length, length-append, List, None, Option, option_and_then, option_map, refl}
use Rattle.std.proofs.Common.{slice_get, Some, subst, suc, sym, true, zero, ℕ}
use Rattle.std.proofs.lemmas.Bool.{cases_lt}
use Rattle.std.proofs.lemmas.Bool.Decides.{eqb_tells}
use Rattle.std.proofs.lemmas.List.Elements.{All-nil}
use Rattle.std.proofs.lemmas.List.Quantifiers.{position-Some}
use Rattle.std.proofs.lemmas.Option.{slice_get_past}
use Rattle.std.specs.Option.{option_map_or}
use Rattle.rbc_book.specs.Book.{entry_at, Pages, wish_at}
use Rattle.rbc_centre.specs.declared.desk.Desk.{Desk}
use Rattle.rbc_centre.specs.Kept.{AreTrains}
use Rattle.rbc_centre.specs.State.{IsOfTrain, IsUnknown, of_trains, right_at, stands_for}
use Rattle.rbc_hand.specs.Hands.{Holding}
use Rattle.rbc_handover.specs.Expectations.{expected_from}
use Rattle.rbc_line.proofs.Lists.{find-position_none}
use Rattle.rbc_link.specs.declared.link.Link.{Link}
use Rattle.rbc_link.specs.declared.sent.Sent.{Sent}
use Rattle.rbc_link.specs.Links.{sent_to, taken_from}
use Rattle.rbc_link.specs.Outgoing.{frames_by}
use Rattle.rbc_linkmsg.specs.Bodies.{body_of}
use Rattle.rbc_linkmsg.specs.declared.body.Body.{Body}
use Rattle.rbc_right.specs.Rights.{is_here, Rights}
use Rattle.rbc_session.specs.Sessions.{phase_at, Records}
use Rattle.rbc_session.specs.SessionStates.{session_phase}
use Rattle.rbc_spec.specs.Centre as centre
use Rattle.rbc_spec.specs.Centre.{Expectation, is_registrar_of}
use Rattle.rbc_spec.specs.Frame.{HasFrameRanges}
use Rattle.rbc_spec.specs.Line.{is_home, Line, Train, train_number}
use Rattle.rbc_train.specs.declared.train.TrainState.{TrainState}
use Rattle.rbc_train.specs.rbc_allocation.Sections.{IsHeldAt}
use Rattle.rbc_train.specs.SessionStates.{Stands}
use Rattle.rbc_train.specs.Trains.{unknown_state}

pub slice_get-last : {X : Type 0} (xs : List X) (x : X) → slice_get (xs ++ x ∷ []) (length xs) ≡ Some x
slice_get-last [] x = refl
slice_get-last (y ∷ ys) x = slice_get-last ys x

pub slice_get-before : {X : Type 0} (xs ys : List X) (i : ℕ) → i < length xs → slice_get (xs ++ ys) i ≡ slice_get xs i
slice_get-before [] ys i h = absurd (let no : ⊥ = omega arith in no)
slice_get-before (x ∷ xs) ys zero h = refl
slice_get-before (x ∷ xs) ys (suc i) h = slice_get-before xs ys i (omega arith)

get_at : {X : Type 0} (xs : List X) (i : ℕ) (d x : X) → slice_get xs i ≡ Some x → get_or xs i d ≡ x
get_at [] i d x h = cc
get_at (y ∷ ys) zero d x h = cc
get_at (y ∷ ys) (suc i) d x h = get_at ys i d x h

module _ (line : Line) (states : List TrainState)
    (each : (i : ℕ) (p : TrainState) → slice_get states i ≡ Some p → IsUnknown line i p) where
  -- a part that is the same of each train
  part_at_all : {X : Type 0} (part : TrainState → X) (none : X)
      → ((i t : ℕ) (e : List (Option Expectation)) → ((d : ℕ) → expected_from e d ≡ None)
      → part (unknown_state i t e) ≡ none) → (i : ℕ) (o : Option TrainState) → slice_get states i ≡ o
      → option_map_or part o none ≡ none
  part_at_all part none same i (Some p) at =
      ap part ((each i p at).state) ∙ same i p.supervision.engine p.expectations ((each i p at).none_expected)
  part_at_all part none same i None at = refl

  of_all : {X : Type 0} (part : TrainState → X) (none : X)
      → ((i t : ℕ) (e : List (Option Expectation)) → ((d : ℕ) → expected_from e d ≡ None)
      → part (unknown_state i t e) ≡ none) → (t : ℕ) → of_trains part none line states t ≡ none
  of_all part none same t = by_number (train_number line t)
    where
      by_number : (number : Option ℕ)
          → option_map_or part (option_and_then (λ j. slice_get states j) number) none ≡ none
      by_number (Some i) = part_at_all part none same i (slice_get states i) refl
      by_number None = refl

  right_at_home : (c t : ℕ) (rights : Rights)
      → ((u j : ℕ) → train_number line u ≡ Some j → is_here rights j ≡ is_registrar_of line c u)
      → right_at line rights t ≡ is_registrar_of line c t
  right_at_home c t rights here = by_number (train_number line t) refl
    where
      by_number : (number : Option ℕ) → train_number line t ≡ number
          → option_map_or (is_here rights) number false ≡ is_registrar_of line c t
      by_number (Some i) at = here t i at
      by_number None none =
          sym (ap (λ o. option_map_or (λ r. r == c) (option_map (λ (p : Train). p.registrar) o) false)
          (find-position_none (λ (p : Train). p.nid_engine == t) line.trains none))

  pub stands_at_beginning : (c : ℕ) (pages : Pages) (desk : Desk) (links : List (Link Body))
      → ((s : ℕ) → entry_at pages s ≡ centre.Shut) → ((s : ℕ) → wish_at pages s ≡ false)
      → ((u j : ℕ) → train_number line u ≡ Some j → is_here desk.registrar j ≡ is_registrar_of line c u)
      → desk.handovers ≡ 0 → ((d : ℕ) → taken_from links d ≡ 0) → ((d : ℕ) → sent_to links d ≡ [])
      → stands_for line c 0 pages desk links states ≡ centre.beginning line c
  unfolding stands_for centre.beginning
  stands_at_beginning c pages desk links shut unwished here none_announced taken sent =
      λ i. record (centre.beginning line c) {
        clock = 0;
        book = λ s. shut s i;
        wish = λ s. unwished s i;
        phase = λ t. of_all (λ p. session_phase p.session_state) centre.Closed (λ j u e none. refl) t i;
        heard = λ t. of_all (λ p. p.heard) None (λ j u e none. refl) t i;
        said = λ t. of_all (λ p. p.said) 0 (λ j u e none. refl) t i;
        mission = λ t. of_all (λ p. p.supervision.mission) None (λ j u e none. refl) t i;
        route_ask = λ t. of_all (λ p. p.supervision.asked) None (λ j u e none. refl) t i;
        wait = λ t. of_all (λ p. p.waiting.wait) None (λ j u e none. refl) t i;
        has_asked = λ t. of_all (λ p. p.waiting.has_asked) false (λ j u e none. refl) t i;
        has_right = λ t. right_at_home c t desk.registrar here i;
        expects = λ d t. of_all (λ p. expected_from p.expectations d) None (λ j u e none. none d) t i;
        announced = none_announced i;
        sent = λ d. ap (frames_by body_of) (sent d) i;
        taken = λ d. taken d i;
      }

  -- ## Properties of each train

  no_train : Train
  no_train = record { nid_engine = 0; registrar = 0 }

  engine_at : (t i e : ℕ) (o : Option Train) → train_number line t ≡ Some i → slice_get line.trains i ≡ o
      → option_map (λ q. q.nid_engine) o ≡ Some e → e ≡ t
  engine_at t i e None number at is = cc
  engine_at t i e (Some q) number at is =
      let passes : (q.nid_engine == t) ≡ true = ap (λ (p : Train). p.nid_engine == t)
      (sym (get_at line.trains i no_train q at))
      ∙ (position-Some (λ (p : Train). p.nid_engine == t) line.trains i no_train number).1 in
      let same : q.nid_engine ≡ e = cc in
      sym same ∙ eqb-true q.nid_engine t passes

  -- a train from which no message was received has no session, and no start of it waits
  each_begins : (c : ℕ) (sessions : Records) → ((u : ℕ) → phase_at sessions u ≡ centre.Closed)
      → (t i : ℕ) (p : TrainState) → train_number line t ≡ Some i → slice_get states i ≡ Some p
      → IsOfTrain line c sessions t i p
  each_begins c sessions closed t i p number at =
      let is = (each i p at).state in
      let engine : p.supervision.engine ≡ t =
      engine_at t i p.supervision.engine (slice_get line.trains i) number refl ((each i p at).engine) in
      record {
        number = ap (λ (q : TrainState). q.supervision.number) is;
        engine = engine;
        waiting = ap (λ (q : TrainState). q.waiting.engine) is ∙ engine;
        covers = λ place waits. let no : None ≡ Some place =
            sym (ap (λ (q : TrainState). q.waiting.wait) is) ∙ waits in cc;
        held =
            subst (λ (h : Holding). IsHeldAt p.supervision.engine (is_home line c) h)
            (sym (ap (λ (q : TrainState). q.supervision.hand) is)) (λ n x there. cc);
        expected = (each i p at).expected;
        session = subst (λ (q : TrainState). Stands sessions q.session_state t) (sym is) (closed t, λ key absent. cc);
      }

  pub trains_begin : (c : ℕ) (sessions : Records) → ((u : ℕ) → phase_at sessions u ≡ centre.Closed)
      → length states ≡ length line.trains → AreTrains line c 0 sessions states
  trains_begin c sessions closed count = record {
    count = count;
    each = each_begins c sessions closed;
    said = λ i p at. let none : p.said ≡ 0 = ap (λ (q : TrainState). q.said) ((each i p at).state) in
        omega (arith, none);
  }

-- no frame was sent
pub none_in_range : (links : List (Link Body)) → ((d : ℕ) → sent_to links d ≡ []) → (d : ℕ)
    → All HasFrameRanges (frames_by body_of (sent_to links d))
none_in_range links sent d =
    subst (λ (fs : List (Sent Body)). All HasFrameRanges (frames_by body_of fs)) (sym (sent d)) (All-nil HasFrameRanges)

-- one more train
pub each_more : (line : Line) (states more : List TrainState) (train : TrainState) (e : ℕ) → more ≡ states ++ train ∷ []
    → train ≡ unknown_state (length states) e train.expectations → length train.expectations ≡ length line.centres
    → ((d : ℕ) → expected_from train.expectations d ≡ None)
    → option_map (λ q. q.nid_engine) (slice_get line.trains (length states)) ≡ Some e
    → ((i : ℕ) (p : TrainState) → slice_get states i ≡ Some p → IsUnknown line i p) → (i : ℕ) (p : TrainState)
    → slice_get more i ≡ Some p → IsUnknown line i p
each_more line states more train e pushed is expected none engine each i p at =
    by_place i (sym (ap (λ xs. slice_get xs i) pushed) ∙ at)
  where
    last : IsUnknown line (length states) train
    last = record {
      state =
          is ∙ ap (λ n. unknown_state (length states) n train.expectations)
          (sym (ap (λ (q : TrainState). q.supervision.engine) is));
      expected = expected;
      none_expected = none;
      engine = engine ∙ ap (λ n. Some n) (sym (ap (λ (q : TrainState). q.supervision.engine) is));
    }

    of_last : (n : ℕ) (q : TrainState) → n ≡ length states → train ≡ q → IsUnknown line n q
    of_last n q place same =
        subst (λ (m : ℕ). IsUnknown line m q) (sym place) (subst (IsUnknown line (length states)) same last)

    past : (n : ℕ) → slice_get (states ++ train ∷ []) n ≡ Some p → (n ≡ length states → ⊥) → length states ≤ n → ⊥
    past n found apart later =
        let none : slice_get (states ++ train ∷ []) n ≡ None = slice_get_past (states ++ train ∷ []) n
        (rw (length-append states (train ∷ [])) (omega (arith, apart, later))) in
        let no : None ≡ Some p = sym none ∙ found in cc

    by_place : (n : ℕ) → slice_get (states ++ train ∷ []) n ≡ Some p → IsUnknown line n p
    by_place n found = elim (cases_lt n (length states)) as (λ _. IsUnknown line n p) [
      | inl earlier ↦ each n p (sym (slice_get-before states (train ∷ []) n earlier) ∙ found)
      | inr later ↦ elim (eqb_tells n (length states)) as (λ _. IsUnknown line n p) [
        | inl same ↦
            of_last n p (same.1) (let e : Some train ≡ Some p =
            sym (slice_get-last states train) ∙ ap (slice_get (states ++ train ∷ [])) (sym (same.1)) ∙ found in cc)
        | inr apart ↦ absurd (past n found (λ h. apart.1 h) later)
      ]
    ]

-- One train at a centre, and the centre after a message or a frame has changed the train.
use Rattle.std.proofs.Common.{◌<◌, ◌∙◌, ◌≡◌, ap, false, length, List, None, refl, set, slice_get, Some, sym, ℕ}
use Rattle.std.specs.Option.{option_map_or}
use Rattle.law_invariants.specs.Flow.Sound.{IsCentreSound}
use Rattle.law_invariants.specs.Ranges.Ranges.{HasStateRanges}
use Rattle.rbc_book.specs.Book.{entry_at, is_own, Pages, wish_at}
use Rattle.rbc_centre.proofs.Kept.{ordered_line, route_form}
use Rattle.rbc_centre.proofs.States.{of_trains-set, part_of_train, right_turned}
use Rattle.rbc_centre.specs.declared.desk.Desk.{Desk}
use Rattle.rbc_centre.specs.State.{IsOfTrain, of_trains, stands_for}
use Rattle.rbc_handover.specs.Expectations.{expected_from}
use Rattle.rbc_handover.specs.Giving.{with_count}
use Rattle.rbc_link.specs.declared.link.Link.{Link}
use Rattle.rbc_linkmsg.specs.declared.body.Body.{Body}
use Rattle.rbc_right.specs.Rights.{is_here, Rights}
use Rattle.rbc_session.specs.Sessions.{Records}
use Rattle.rbc_session.specs.SessionStates.{session_phase}
use Rattle.rbc_spec.specs.Centre as centre
use Rattle.rbc_spec.specs.Line.{is_home, IsLine, Line, train_number}
use Rattle.rbc_spec.specs.Maps.{put}
use Rattle.rbc_train.specs.declared.train.TrainState.{TrainState}
use Rattle.rbc_train.specs.Desk.{HasParts, IsKeptAt, KeepsDesk, KeepsTrain, with_parts}

-- the last T_TRAIN received from a train of the line
pub heard_of : (line : Line) (c clock t i : ℕ) (book : Pages) (desk : Desk) (links : List (Link Body))
    (states : List TrainState) (state : TrainState)
    → train_number line t ≡ Some i → slice_get states i ≡ Some state
    → (stands_for line c clock book desk links states).heard t ≡ state.heard
unfolding stands_for
heard_of line c clock t i book desk links states state number at =
    sym (part_of_train (λ p. p.heard) None line states t i state number at)

-- the mission of a train of the line
pub mission_of : (line : Line) (c clock t i : ℕ) (book : Pages) (desk : Desk) (links : List (Link Body))
    (states : List TrainState) (state : TrainState)
    → train_number line t ≡ Some i → slice_get states i ≡ Some state
    → (stands_for line c clock book desk links states).mission t ≡ state.supervision.mission
unfolding stands_for
mission_of line c clock t i book desk links states state number at =
    sym (part_of_train (λ p. p.supervision.mission) None line states t i state number at)

-- how many handovers were announced
pub announced_of : (line : Line) (c clock : ℕ) (book : Pages) (desk : Desk) (links : List (Link Body))
    (states : List TrainState) → (stands_for line c clock book desk links states).announced ≡ desk.handovers
unfolding stands_for
announced_of line c clock book desk links states = refl

-- the count is the same if no handover is announced
pub same_count : (line : Line) (c clock : ℕ) (book : Pages) (desk : Desk) (links : List (Link Body))
    (states : List TrainState) (new : TrainState) (pages : Pages) (rights : Rights)
    → with_parts new pages rights (stands_for line c clock book desk links states)
    ≡ with_count desk.handovers (with_parts new pages rights (stands_for line c clock book desk links states))
unfolding stands_for
same_count line c clock book desk links states new pages rights = refl

-- the invariants of the train at the centre
pub kept_at : (line : Line) (c : ℕ) (k : centre.Centre) (sessions : Records) (t i : ℕ) (p : TrainState)
    → ∥ IsLine line ∥₁ → IsCentreSound line c k → ∥ HasStateRanges line c k ∥₁
    → IsOfTrain line c sessions t i p → k.mission t ≡ p.supervision.mission → IsKeptAt line c p
kept_at line c k sessions t i p rules sound ranged of_train mission = record {
  one_train = of_train.waiting ∙ sym of_train.engine;
  form = λ m at. route_form line c k rules sound ranged t m (mission ∙ at);
  pool = record {
    follows = λ m at some. (sound.mission t m (mission ∙ at)).pool_follows some;
    away = λ m at. (sound.mission t m (mission ∙ at)).pool_away;
  };
  covers = of_train.covers;
  expected = of_train.expected;
}

module _ (line : Line) (c clock t i : ℕ) (book : Pages) (desk : Desk) (links : List (Link Body))
    (states : List TrainState) (old : TrainState)
    (number : train_number line t ≡ Some i) (at : slice_get states i ≡ Some old) (within : i < length states)
    (engine : old.supervision.engine ≡ t)
    (place : old.supervision.number ≡ i) where
  abbrev k : centre.Centre
  k = stands_for line c clock book desk links states

  part_at : {X : Type 0} (part : TrainState → X) (none : X)
      → of_trains part none line states old.supervision.engine ≡ part old
  part_at part none =
      ap (of_trains part none line states) engine ∙ sym (part_of_train part none line states t i old number at)

  pub has_train : ∥ IsLine line ∥₁ → IsKeptAt line c old → ((s : ℕ) → is_own book s ≡ is_home line c s)
      → HasParts line c k old book desk.registrar
  unfolding stands_for centre.beginning
  has_train rules kept homes = record {
    ordered = ordered_line line rules;
    kept = kept;
    homes = homes;
    has_book = λ s. refl;
    has_wish = λ s. refl;
    has_phase = part_at (λ p. session_phase p.session_state) centre.Closed;
    has_heard = part_at (λ p. p.heard) None;
    has_said = part_at (λ p. p.said) 0;
    has_mission = part_at (λ p. p.supervision.mission) None;
    has_route_ask = part_at (λ p. p.supervision.asked) None;
    has_wait = part_at (λ p. p.waiting.wait) None;
    has_ask = part_at (λ p. p.waiting.has_asked) false;
    has_right =
        ap (λ o. option_map_or (is_here desk.registrar) o false) (ap (train_number line) engine ∙ number)
        ∙ ap (is_here desk.registrar) (sym place);
    has_expects = λ d. part_at (λ p. expected_from p.expectations d) None;
  }

  -- the train, book, rights and count of handovers that are left, as a centre
  pub train_left : (new : TrainState) (new_book : Pages) (new_rights : Rights) (n : ℕ) → KeepsTrain old new
      → KeepsDesk old.supervision.number book new_book desk.registrar new_rights
      → with_count n (with_parts new new_book new_rights k)
      ≡ stands_for line c clock new_book (record { registrar = new_rights; handovers = n }) links (set states i new)
  unfolding stands_for
  train_left new new_book new_rights n kept keeps = λ j. record k {
    announced = n;
    book = entry_at new_book;
    wish = wish_at new_book;
    phase = λ u. changed (λ p. session_phase p.session_state) centre.Closed u j;
    heard = λ u. changed (λ p. p.heard) None u j;
    said = λ u. changed (λ p. p.said) 0 u j;
    mission = λ u. changed (λ p. p.supervision.mission) None u j;
    route_ask = λ u. changed (λ p. p.supervision.asked) None u j;
    wait = λ u. changed (λ p. p.waiting.wait) None u j;
    has_asked = λ u. changed (λ p. p.waiting.has_asked) false u j;
    has_right =
        λ u. ((λ l. put k.has_right (is_train l) (is_here new_rights ((kept.number ∙ place) l)) u)
        ∙ sym (right_turned line desk.registrar new_rights t i (is_here new_rights i) number turned u)) j;
    expects = λ d u. changed (λ p. expected_from p.expectations d) None u j;
  }
    where
      is_train : new.supervision.engine ≡ t
      is_train = kept.engine ∙ engine

      turned : (j : ℕ) → is_here new_rights j ≡ put (is_here desk.registrar) i (is_here new_rights i) j
      turned j = keeps.rights.others j ∙ ap (λ (n : ℕ). put (is_here desk.registrar) n (is_here new_rights n) j) place

      changed : {X : Type 0} (part : TrainState → X) (none : X) (u : ℕ)
          → put (of_trains part none line states) new.supervision.engine (part new) u
          ≡ of_trains part none line (set states i new) u
      changed part none u =
          (λ l. put (of_trains part none line states) (is_train l) (part new) u)
          ∙ sym (of_trains-set part none line states t i new number within u)

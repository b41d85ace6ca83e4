-- The states of sections and trains in memory, as functions of numbers.
use Rattle.std.specs.Option.{option_map_or}
use Rattle.std.specs.Prelude.{◌≡◌, Bool, false, length, List, None, Option, option_and_then, option_map, slice_get}
use Rattle.std.specs.Prelude.{Some, ℕ}
use Rattle.rbc_book.specs.Book.{entry_at, Pages, wish_at}
use Rattle.rbc_centre.specs.declared.desk.Desk.{Desk}
use Rattle.rbc_handover.specs.Expectations.{expected_from}
use Rattle.rbc_link.specs.declared.link.Link.{Link}
use Rattle.rbc_link.specs.Links.{sent_to, taken_from}
use Rattle.rbc_link.specs.Outgoing.{frames_by}
use Rattle.rbc_linkmsg.specs.Bodies.{body_of}
use Rattle.rbc_linkmsg.specs.declared.body.Body.{Body}
use Rattle.rbc_right.specs.Rights.{is_here, Rights}
use Rattle.rbc_session.specs.Sessions.{Records}
use Rattle.rbc_session.specs.SessionStates.{session_phase}
use Rattle.rbc_spec.specs.Centre as centre
use Rattle.rbc_spec.specs.Line.{Line, train_number}
use Rattle.rbc_train.specs.declared.train.TrainState.{TrainState}
use Rattle.rbc_train.specs.Desk.{IsHeld}
use Rattle.rbc_train.specs.rbc_pending_start.Waits.{IsCovered}
use Rattle.rbc_train.specs.SessionStates.{Stands}
use Rattle.rbc_train.specs.Trains.{unknown_state}

-- the state of a train of the line
abbrev pub state_at : Line → List TrainState → ℕ → Option TrainState
state_at line trains t = option_and_then (λ i. slice_get trains i) (train_number line t)

-- one of its parts, for every engine; an engine that is not of the line has the given value
abbrev pub of_trains : {X : Type 0} → (TrainState → X) → X → Line → List TrainState → ℕ → X
of_trains part none line trains t = option_map_or part (state_at line trains t) none

-- the right of a train of the line is here
abbrev pub right_at : Line → Rights → ℕ → Bool
right_at line rights t = option_map_or (is_here rights) (train_number line t) false

-- the state of a centre with this number, clock, pages, rights with the count of its handovers, links and trains
unfoldable pub stands_for : Line → ℕ → ℕ → Pages → Desk → List (Link Body) → List TrainState → centre.Centre
stands_for line number clock pages desk links trains = record (centre.beginning line number) {
  clock = clock;
  book = entry_at pages;
  wish = wish_at pages;
  phase = of_trains (λ p. session_phase p.session_state) centre.Closed line trains;
  heard = of_trains (λ p. p.heard) None line trains;
  said = of_trains (λ p. p.said) 0 line trains;
  mission = of_trains (λ p. p.supervision.mission) None line trains;
  route_ask = of_trains (λ p. p.supervision.asked) None line trains;
  wait = of_trains (λ p. p.waiting.wait) None line trains;
  has_asked = of_trains (λ p. p.waiting.has_asked) false line trains;
  has_right = right_at line desk.registrar;
  expects = λ d. of_trains (λ p. expected_from p.expectations d) None line trains;
  announced = desk.handovers;
  sent = λ d. frames_by body_of (sent_to links d);
  taken = taken_from links;
}

-- the state of the train with this NID_ENGINE at centre c, at its position in the line file
pub record IsOfTrain (line : Line) (c : ℕ) (sessions : Records) (t i : ℕ) (p : TrainState) : Type 0 where
  pub number : p.supervision.number ≡ i
  pub engine : p.supervision.engine ≡ t
  pub waiting : p.waiting.engine ≡ t
  pub covers : IsCovered line p.waiting
  pub held : IsHeld line c p
  pub expected : length p.expectations ≡ length line.centres
  pub session : Stands sessions p.session_state t

-- the state is of the train at position i of the line file, from which no message was received
pub record IsUnknown (line : Line) (i : ℕ) (p : TrainState) : Type 0 where
  pub state : p ≡ unknown_state i p.supervision.engine p.expectations
  pub expected : length p.expectations ≡ length line.centres
  pub none_expected : (d : ℕ) → expected_from p.expectations d ≡ None
  pub engine : option_map (λ q. q.nid_engine) (slice_get line.trains i) ≡ Some p.supervision.engine

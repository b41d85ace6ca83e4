-- Handovers that can end: the events that lead from a world to one at rest without a handover.
use Rattle.std.specs.Prelude.{◌≡◌, ◌⊎◌, ℕ, ◌+◌, ◌≤◌, Bool, List, true, false, All, Option, Some, is_some, Ok, Err}
use Rattle.rbc_spec.specs.Maps.{has}
use Rattle.rbc_spec.specs.Line.{Line, is_centre}
use Rattle.rbc_spec.specs.Message.{TrainBody, Report, InitiationOfSession, SessionEstablished, unknown_time}
use Rattle.rbc_spec.specs.Centre.{Mission, Phase, Closed, Opened, Up, is_expected}
use Rattle.rbc_spec.specs.Step.{Refusal}
use Rattle.rbc_spec.specs.World.{World, Event, Bytes, Delivery, Answer, world_step, world_run}
use Rattle.law_invariants.specs.Ranges.Ranges.{HasMessageRanges}
use Rattle.law_progress.specs.Rest.Rest.{IsAtRest}

-- a message that begins a session, or a position report
abbrev pub IsSessionOrReport : TrainBody → Type 0
IsSessionOrReport InitiationOfSession = Unit {0}
IsSessionOrReport SessionEstablished = Unit {0}
IsSessionOrReport (Report position) = Unit {0}
IsSessionOrReport body = ⊥

-- a delivery, or such a message of a train, each value in its range
abbrev pub IsGoingOn : Event → Type 0
IsGoingOn (Delivery a b number) = Unit {0}
IsGoingOn (Bytes c (Ok m)) = IsSessionOrReport m.body × HasMessageRanges m
IsGoingOn event = ⊥

-- the mission has announced a handover, which may be claimed
abbrev pub is_handing : Option Mission → Bool
is_handing mission = has (λ m. is_some m.handing) mission

-- no centre has announced a handover, or has one that is claimed, and none expects a train, or takes one over
pub record HasNoHandover (line : Line) (w : World) : Type 0 where
  pub none_handed : (c t : ℕ) → is_centre line c ≡ true → is_handing ((w.at c).mission t) ≡ false
  pub none_expected : (c t : ℕ) → is_centre line c ≡ true → is_expected line (w.at c) t ≡ false

-- how many messages a train's report takes, with those that begin its session
abbrev pub messages_for_report : Phase → ℕ
messages_for_report Closed = 3
messages_for_report Opened = 2
messages_for_report Up = 1

-- a train with a pending handover at centre c has sent so great a T_TRAIN that no report can follow
pub record IsOutOfStamps (line : Line) (w : World) : Type 0 where
  pub c : ℕ
  pub t : ℕ
  pub last : ℕ
  pub of_line : is_centre line c ≡ true
  pub handing : is_handing ((w.at c).mission t) ≡ true
  pub heard : (w.at c).heard t ≡ Some last
  pub none_left : unknown_time ≤ last + messages_for_report ((w.at c).phase t)

-- the step of such an event is refused: a step clock is at its end, or a link is full
pub record IsRefusedThere (line : Line) (w : World) : Type 0 where
  pub event : Event
  pub going_on : IsGoingOn event
  pub why : Refusal
  pub refused : world_step line w event ≡ Err why

-- Finitely many deliveries and messages of trains lead from w to one of three ends. The world is at rest without a
-- handover. Or it is at rest, and a train has too few stamps left for a report. Or a step is refused.
pub record GoesOn (line : Line) (w : World) : Type 0 where
  pub events : List Event
  pub going_on : All IsGoingOn events
  pub answers : List Answer
  pub last : World
  pub ran : world_run line w events ≡ Ok (answers, last)
  pub ends : (IsAtRest line last × (HasNoHandover line last ⊎ IsOutOfStamps line last)) ⊎ IsRefusedThere line last

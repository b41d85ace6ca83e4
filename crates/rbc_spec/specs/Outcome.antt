-- The outcome of a centre's step.
use Rattle.std.specs.Prelude.{[], ◌∷◌, List, Option, ℕ}
use Rattle.rbc_spec.specs.Frame.{Frame}
use Rattle.rbc_spec.specs.Message.{EndOfMission, InitiationOfSession, Report, Request, SessionEstablished}
use Rattle.rbc_spec.specs.Message.{ShorteningGranted, ShorteningRejected, StartOfMission, TerminationOfSession}
use Rattle.rbc_spec.specs.Message.{TrackMessage, TrainBody, TrainData}

-- The reason why a train's message has no effect, with the number that is printed (profile). In these comments such a
-- message is "silent". Any other is "answered", even if its answer sends no message.
pub data Reason : Type 0 where
  StaleStamp : Reason  -- 1 its T_TRAIN is not above the last one received from the train
  NoSession : Reason  -- 2 there is no session with the train
  ForeignEngine : Reason  -- 3 the train is not of the line
  NoPlace : Reason  -- 4 its report gives no place at which the message can be taken
  NotSupervised : Reason  -- 5 the train is not supervised here
  NoTrainData : Reason  -- 6 the train data are not known
  ProposalPending : Reason  -- 7 a request to shorten is pending
  Unasked : Reason  -- 8 it answers no pending request
  MissionEnded : Reason  -- 9 the mission has ended
  WrongPhase : Reason  -- 10 the session is in the wrong phase for it

-- the reasons that are checked for a message, in this order; the first that holds is given
-- Rules: SI-2, SI-3
abbrev pub reasons_of : TrainBody → List Reason
reasons_of InitiationOfSession = ForeignEngine ∷ StaleStamp ∷ []
reasons_of SessionEstablished = ForeignEngine ∷ StaleStamp ∷ NoSession ∷ WrongPhase ∷ []
reasons_of TerminationOfSession = ForeignEngine ∷ StaleStamp ∷ NoSession ∷ []
reasons_of (StartOfMission is_valid position) = ForeignEngine ∷ StaleStamp ∷ NoSession ∷ WrongPhase ∷ []
reasons_of (TrainData position) =
    ForeignEngine ∷ StaleStamp ∷ NoSession ∷ WrongPhase ∷ NotSupervised ∷ MissionEnded ∷ []
reasons_of (Request position) =
    ForeignEngine ∷ StaleStamp ∷ NoSession ∷ WrongPhase ∷ NotSupervised ∷ MissionEnded ∷ NoTrainData ∷ ProposalPending
    ∷ NoPlace ∷ []
reasons_of (Report position) = ForeignEngine ∷ StaleStamp ∷ NoSession ∷ WrongPhase ∷ NotSupervised ∷ NoPlace ∷ []
reasons_of (ShorteningGranted stamp position) =
    ForeignEngine ∷ StaleStamp ∷ NoSession ∷ WrongPhase ∷ NotSupervised ∷ Unasked ∷ []
reasons_of (ShorteningRejected stamp position) =
    ForeignEngine ∷ StaleStamp ∷ NoSession ∷ WrongPhase ∷ NotSupervised ∷ Unasked ∷ []
reasons_of (EndOfMission position) =
    ForeignEngine ∷ StaleStamp ∷ NoSession ∷ WrongPhase ∷ NotSupervised ∷ MissionEnded ∷ []

-- a message to a train
pub record Saying : Type 0 where
  pub nid_engine : ℕ
  pub message : TrackMessage

-- A reply to the interlocking: `Done`, `Asked` or `NotHome` answer a set or an unset of section s. `Told` reports that
-- a section which was wished back is given back (profile).
-- Rules: CL-4
pub data Word : Type 0 where
  Done : (s : ℕ) → Word
  Asked : (s : ℕ) → Word
  NotHome : (s : ℕ) → Word
  Told : (s : ℕ) → Word

-- The answer of a link to a frame: it is the next one, an earlier one, or a later one. `NoLink`: the two centres have
-- no link.
pub data Taken : Type 0 where
  Next : Taken
  Old : Taken
  Early : Taken
  NoLink : Taken

-- The outcome of a step: its stamp, the messages to trains, the frames to each centre, and the replies to the
-- interlocking, each in order. `link` is the answer of the link if the event is a frame. `silence` is the reason if the
-- event is a silent message.
-- Rules: CL-4
pub record Outcome : Type 0 where
  pub stamp : ℕ
  pub sayings : List Saying
  pub frames : ℕ → List Frame
  pub words : List Word
  pub link : Option Taken
  pub silence : Option Reason

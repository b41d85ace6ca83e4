-- The state that a centre keeps of a train.
use Rattle.std.specs.Prelude.{◌≡◌, ℕ, List, [], Option, None, false}
use Rattle.rbc_spec.specs.Maps.{put}
use Rattle.rbc_spec.specs.Outcome.{Saying}
use Rattle.rbc_spec.specs.Centre as centre
use Rattle.rbc_spec.specs.Acts.{Reply}
use Rattle.rbc_pending_start.specs.Waits.{nothing_waits}
use Rattle.rbc_mission.specs.Supervisions.{no_mission}
use Rattle.rbc_session.specs.SessionStates.{session_phase}
use Rattle.rbc_session.specs.declared.session.SessionState.TheVariants as session_state
use Rattle.rbc_train.specs.declared.train.TrainState.{TrainState}

-- The state of a train from which no message was received, by its position in the line file and its NID_ENGINE, with
-- these expectations.
abbrev pub unknown_state : ℕ → ℕ → List (Option centre.Expectation) → TrainState
unknown_state i t e = record {
  session_state = session_state.Closed;
  heard = None;
  said = 0;
  supervision = no_mission i t;
  waiting = nothing_waits t false;
  expectations = e;
}

-- centre k has this session and this mission of train t, and has sent it this number of messages
pub record HasTrain (k : centre.Centre) (t : ℕ) (p : TrainState) : Type 0 where
  pub phase_is : k.phase t ≡ session_phase p.session_state
  pub mission_is : k.mission t ≡ p.supervision.mission
  pub said_is : k.said t ≡ p.said

-- a request to train t, which leaves this state of it
abbrev pub asked : ℕ → TrainState → List Saying → centre.Centre → Reply
asked t new sayings k = record {
  state = record k { said = put k.said t new.said; mission = put k.mission t new.supervision.mission };
  frames = λ d. [];
  sayings = sayings;
  words = [];
}

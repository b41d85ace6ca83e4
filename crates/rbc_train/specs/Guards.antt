-- The premises of most messages of a train.
use Rattle.std.specs.Prelude.{◌≡◌, Option, Some, None, Result, Ok, Err}
use Rattle.rbc_spec.specs.Centre.{Phase, Closed, Opened, Up, Mission}
use Rattle.rbc_mission.specs.Supervisions.{SupervisionState, hand_of, pool_of, handing_in, mission_of}
use Rattle.rbc_mission.specs.declared.facts.MissionFacts.{MissionFacts as Facts}
use Rattle.rbc_train.specs.declared.reason.Reason.{Reason}
use Rattle.rbc_train.specs.declared.reason.Reason.TheVariants as reason

-- the reason for which a message that needs an established session is silent in this phase, if there is one
abbrev pub not_up : Phase → Option Reason
not_up Closed = Some reason.NoSession
not_up Opened = Some reason.WrongPhase
not_up Up = None

-- the session is up, or it is not for this reason
abbrev pub TellsUp : {T : Type 0} → Phase → Result T Reason → Type 0
TellsUp phase (Ok _) = phase ≡ Up
TellsUp phase (Err why) = not_up phase ≡ Some why

-- the mission of these facts
abbrev pub mission_in : SupervisionState → Facts → Mission
mission_in s facts = mission_of (hand_of s) (pool_of s) (handing_in s) facts

-- the result is the facts of the mission here, or NotSupervised if there is none
abbrev pub TellsMission : SupervisionState → Result Facts Reason → Type 0
TellsMission s (Ok facts) = s.mission ≡ Some (mission_in s facts)
TellsMission s (Err why) = (s.mission ≡ None) × (why ≡ reason.NotSupervised)

-- The reasons of silence as the code names them.
use Rattle.std.specs.Prelude.{ℕ}
use Rattle.rbc_spec.specs.Outcome.{Reason}
use Rattle.rbc_spec.specs.Outcome as spec
use Rattle.rbc_train.specs.declared.reason.Reason.{Reason as ReasonCode}
use Rattle.rbc_train.specs.declared.reason.Reason.TheVariants as reason

-- the reason of silence, and the number that it is printed as
abbrev pub reason_of : ReasonCode → Reason
reason_of reason.StaleStamp = spec.StaleStamp
reason_of reason.NoSession = spec.NoSession
reason_of reason.ForeignEngine = spec.ForeignEngine
reason_of reason.NoPlace = spec.NoPlace
reason_of reason.NotSupervised = spec.NotSupervised
reason_of reason.NoTrainData = spec.NoTrainData
reason_of reason.ProposalPending = spec.ProposalPending
reason_of reason.Unasked = spec.Unasked
reason_of reason.MissionEnded = spec.MissionEnded
reason_of reason.WrongPhase = spec.WrongPhase

abbrev pub number_of_reason : ReasonCode → ℕ
number_of_reason reason.StaleStamp = 1
number_of_reason reason.NoSession = 2
number_of_reason reason.ForeignEngine = 3
number_of_reason reason.NoPlace = 4
number_of_reason reason.NotSupervised = 5
number_of_reason reason.NoTrainData = 6
number_of_reason reason.ProposalPending = 7
number_of_reason reason.Unasked = 8
number_of_reason reason.MissionEnded = 9
number_of_reason reason.WrongPhase = 10

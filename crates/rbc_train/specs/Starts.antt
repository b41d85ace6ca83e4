-- The effect of a start of mission.
use Rattle.std.specs.Prelude.{ℕ, []}
use Rattle.rbc_spec.specs.Message.{TrainAccepted, TrainRejected, unknown_group}
use Rattle.rbc_spec.specs.Centre.{Centre}
use Rattle.rbc_spec.specs.Acts.{Reply, say}
use Rattle.rbc_train.specs.Desk.{posted, replied}
use Rattle.rbc_train.specs.Letters.{letters}
use Rattle.rbc_train.specs.declared.start_of_mission.Start.{Start}
use Rattle.rbc_train.specs.declared.start_of_mission.Start.TheVariants.{Accepted, Rejected, Waiting}

-- the reply to a start of mission, from the state that the start leaves
abbrev pub started : ℕ → Start → Centre → Reply
started t Accepted k = say t unknown_group TrainAccepted k
started t Rejected k = say t unknown_group TrainRejected k
started t (Waiting letter) k = posted (letters letter) (replied k [] [])

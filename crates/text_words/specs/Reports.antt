-- The position that a message of a train reports.
use Rattle.rbc_msgs.specs.declared.train_body.TrainBody.{TrainBody}
use Rattle.rbc_msgs.specs.declared.train_body.TrainBody.TheVariants.{EndOfMission, InitiationOfSession, Report}
use Rattle.rbc_msgs.specs.declared.train_body.TrainBody.TheVariants.{Request, SessionEstablished}
use Rattle.rbc_msgs.specs.declared.train_body.TrainBody.TheVariants.{ShorteningGranted, ShorteningRejected}
use Rattle.rbc_msgs.specs.declared.train_body.TrainBody.TheVariants.{StartOfMission, TerminationOfSession, TrainData}
use Rattle.rbc_packets.specs.declared.position.Position.{Position}
use Rattle.std.specs.Prelude.{None, Option, Some}

abbrev pub reported : TrainBody → Option Position
reported (TrainData position packet) = Some position
reported (Request reason position) = Some position
reported (Report position) = Some position
reported (ShorteningGranted request position) = Some position
reported (ShorteningRejected request position) = Some position
reported (EndOfMission position) = Some position
reported (StartOfMission status position) = Some position
reported InitiationOfSession = None
reported TerminationOfSession = None
reported SessionEstablished = None

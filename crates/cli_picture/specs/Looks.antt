-- The looks of sections in use, and the kinds of events.
use Rattle.cli_picture.specs.declared.run.Kind.{Kind}
use Rattle.cli_picture.specs.declared.run.Kind.TheVariants as kind
use Rattle.rbc_msgs.specs.declared.train_body.TrainBody.{TrainBody}
use Rattle.rbc_msgs.specs.declared.train_body.TrainBody.TheVariants.{EndOfMission, InitiationOfSession, Report}
use Rattle.rbc_msgs.specs.declared.train_body.TrainBody.TheVariants.{Request, SessionEstablished}
use Rattle.rbc_msgs.specs.declared.train_body.TrainBody.TheVariants.{ShorteningGranted, ShorteningRejected}
use Rattle.rbc_msgs.specs.declared.train_body.TrainBody.TheVariants.{StartOfMission, TerminationOfSession, TrainData}
use Rattle.rbc_packets.specs.declared.position.Position.{Position}
use Rattle.std.specs.Prelude.{Bool, codes, false, is_some, List, None, Option, Some, true, ℕ}
use Rattle.text_script.specs.rbc_book.declared.mark.Mark.{Mark}
use Rattle.text_script.specs.rbc_book.declared.mark.Mark.TheVariants.{Given, Kept, Open, Shut}
use Rattle.text_script.specs.rbc_world.declared.event.Answer.{Answer}
use Rattle.text_script.specs.rbc_world.declared.event.Answer.TheVariants as answer
use Rattle.text_script.specs.rbc_world.declared.event.WorldEvent.{WorldEvent}
use Rattle.text_script.specs.rbc_world.declared.event.WorldEvent.TheVariants as event

-- the class of a section in use, the words before its train, and the train
abbrev pub use_of : Mark → Option (List ℕ × List ℕ × ℕ)
use_of (Given engine) = Some (codes "", codes "", engine)
use_of (Kept engine) = Some (codes " kept", codes "kept for ", engine)
use_of Shut = None
use_of Open = None

-- the event is a message of a train
abbrev pub is_message : WorldEvent → Bool
is_message (event.Train centre bytes) = true
is_message (event.Set centre section) = false
is_message (event.Unset centre section) = false
is_message (event.Deliver from to number) = false

-- the kind of an order of the interlocking, or of a frame
abbrev pub order_of : WorldEvent → Kind
order_of (event.Train centre bytes) = kind.NoMessage
order_of (event.Set centre section) = kind.Set centre section
order_of (event.Unset centre section) = kind.Unset centre section
order_of (event.Deliver from to number) = kind.Delivery from to number

-- an answer changes nothing: it has a reason of silence, or no centre answers
abbrev pub is_silent : Answer → Bool
is_silent (answer.Outcome outcome) = is_some outcome.silence
is_silent answer.NoCentre = true
is_silent answer.NotSent = true
is_silent (answer.Fault fault) = true

-- the position that a message reports; a start of mission may be rejected, and counts by the line's state
abbrev pub reported : TrainBody → Option Position
reported (TrainData position packet) = Some position
reported (Request reason position) = Some position
reported (Report position) = Some position
reported (ShorteningGranted request position) = Some position
reported (ShorteningRejected request position) = Some position
reported (EndOfMission position) = Some position
reported (StartOfMission status position) = None
reported InitiationOfSession = None
reported TerminationOfSession = None
reported SessionEstablished = None

-- The packets of a train's message that are kept without being read.
use Rattle.std.specs.Prelude.{◌≢◌, List, [], ◌∷◌, ◌++◌, Result, Ok, Err}
use Rattle.rbc_packets.specs.Packet.{Packet}
use Rattle.rbc_msgs.specs.TrainText.{TrainText}
use Rattle.rbc_msgs.specs.declared.fault.MsgFault.{MsgFault}
use Rattle.rbc_msgs.specs.declared.fault.MsgFault.TheVariants.{Short, Length, UnknownNumber, Missing}
use Rattle.rbc_msgs.specs.declared.train_body.TrainBody.{TrainBody}
use Rattle.rbc_msgs.specs.declared.train_body.TrainBody.TheVariants.{TrainData}

-- packet 11 of message 129
abbrev pub data_packets : TrainBody → List Packet
data_packets (TrainData position packet) = packet ∷ []
data_packets other = []

abbrev pub kept_packets : TrainText → List Packet
kept_packets m = data_packets m.body ++ m.further

-- a fault that can be found after a packet that is kept: these four are found before any
abbrev pub IsAfterPackets : MsgFault → Type 0
IsAfterPackets Short = ⊥
IsAfterPackets Length = ⊥
IsAfterPackets UnknownNumber = ⊥
IsAfterPackets Missing = ⊥
IsAfterPackets fault = Unit {0}

-- a packet may have been kept: the value read has one, or its fault can be found after one
abbrev pub MayKeep : {A : Type 0} → (A → List Packet) → Result A MsgFault → Type 0
MayKeep packets (Ok x) = packets x ≢ []
MayKeep packets (Err fault) = IsAfterPackets fault

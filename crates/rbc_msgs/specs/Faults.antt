-- The numbers by which a program names the faults of a message and of a stream (profile).
use Rattle.std.specs.Prelude.{ℕ}
use Rattle.rbc_msgs.specs.declared.fault.MsgFault.{MsgFault}
use Rattle.rbc_msgs.specs.declared.fault.MsgFault.TheVariants.{Length, Memory, Missing, Packet, Padding, Short}
use Rattle.rbc_msgs.specs.declared.fault.MsgFault.TheVariants.{UnknownNumber, Value}
use Rattle.rbc_msgs.specs.declared.fault.StreamFault.{StreamFault}
use Rattle.rbc_msgs.specs.declared.fault.StreamFault.TheVariants.{Failed, Message}

abbrev pub fault_number : MsgFault → ℕ
fault_number Short = 1
fault_number Length = 2
fault_number Padding = 3
fault_number UnknownNumber = 4
fault_number Packet = 5
fault_number Missing = 6
fault_number Value = 7
fault_number Memory = 8

abbrev pub stream_fault_number : StreamFault → ℕ
stream_fault_number (Message fault) = fault_number fault
stream_fault_number Failed = 9

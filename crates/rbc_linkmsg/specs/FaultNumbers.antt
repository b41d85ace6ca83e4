-- The numbers by which a program names the faults of a frame (profile).
use Rattle.std.specs.Prelude.{ℕ}
use Rattle.rbc_linkmsg.specs.declared.fault.FrameFault.{FrameFault}
use Rattle.rbc_linkmsg.specs.declared.fault.FrameFault.TheVariants.{Short, Length, Kind, Value}

abbrev pub frame_fault_number : FrameFault → ℕ
frame_fault_number Short = 1
frame_fault_number Length = 2
frame_fault_number Kind = 3
frame_fault_number Value = 4

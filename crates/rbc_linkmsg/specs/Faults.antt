-- Which fault bytes have that spell no frame: the first in this order (profile).
use Rattle.std.specs.Prelude.{ℕ, List, length, slice_index, Result, Ok, Err, nat_lt, if◌then◌else◌}
use Rattle.rbc_linkmsg.specs.Kinds.{kind_with, kind_length}
use Rattle.rbc_linkmsg.specs.declared.fault.FrameFault.{FrameFault}
use Rattle.rbc_linkmsg.specs.declared.fault.FrameFault.TheVariants.{Short, Length, Value}
use Rattle.rbc_linkmsg.specs.declared.kind.FrameKind.{FrameKind}

-- the fault of `found` bytes if a frame has `wanted` bytes
abbrev pub length_fault : ℕ → ℕ → FrameFault
length_fault found wanted = if nat_lt found wanted then Short else (if nat_lt wanted found then Length else Value)

abbrev pub fault_of_kind : ℕ → Result FrameKind FrameFault → FrameFault
fault_of_kind found (Ok k) = length_fault found (kind_length k)
fault_of_kind found (Err fault) = fault

-- The tests in order. The bytes are too few for the kind, which is the ninth byte. The kind is unknown. The bytes are
-- fewer or more than frames of the kind have. Else a number is out of its range.
unfoldable pub first_fault : List ℕ → FrameFault
first_fault bytes =
    if nat_lt (length bytes) 9 then Short else fault_of_kind (length bytes) (kind_with (slice_index bytes 8))

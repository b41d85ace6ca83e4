-- The values that a decoder refuses, and the places and the words of faults.
use Rattle.rbc_linkmsg.specs.declared.fault.FrameFault.{FrameFault}
use Rattle.rbc_linkmsg.specs.declared.fault.FrameFault.TheVariants as frame
use Rattle.rbc_msgs.specs.declared.fault.MsgFault.{MsgFault}
use Rattle.rbc_msgs.specs.declared.fault.MsgFault.TheVariants as fault
use Rattle.std.specs.Borrow.{Bor}
use Rattle.std.specs.List.{list_any}
use Rattle.std.specs.Option.{option_map_or, option_or}
use Rattle.std.specs.Prelude.{◌==◌, ◌||◌, Bool, codes, false, if◌then◌else◌, List, nat_lt, None, not, Option}
use Rattle.std.specs.Prelude.{slice_get, Some, ℕ}
use Rattle.text_fields.specs.declared.kind.Kind.{Kind}
use Rattle.text_fields.specs.declared.kind.Kind.TheVariants as kind
use Rattle.text_fields.specs.declared.seen.Seen.{Seen}

-- a table of the code has a meaning of the value
abbrev pub has : List (ℕ × Bor (List ℕ)) → ℕ → Bool
has table value = list_any (λ row. row.0 == value) table

-- a decoder refuses this value of a field: the greatest one of a header's time, and a value without a meaning
abbrev pub refuses : Kind → ℕ → Bool
refuses (kind.Words table) value = not (has table.now value)
refuses (kind.Only only words) value = not (value == only)
refuses (kind.Range least most) value = nat_lt value least || nat_lt most value
refuses kind.TrainTime value = value == 4294967295
refuses kind.CentreTime value = value == 4294967295
refuses kind.Filling value = not (value == 0)
refuses other value = false

-- the words of a message's fault
abbrev pub fault_words : MsgFault → List ℕ
fault_words fault.Short = codes "bytes are missing"
fault_words fault.Length = codes "L_MESSAGE is not the length of the message"
fault_words fault.Padding = codes "a filling bit is not zero"
fault_words fault.UnknownNumber = codes "no message of this NID_MESSAGE is read"
fault_words fault.Packet = codes "a packet is cut off or has a wrong length"
fault_words fault.Missing = codes "a packet that has to be there is not"
fault_words fault.Value = codes "a field has a value that is refused"
fault_words fault.Memory = codes "memory ran out"

-- L_MESSAGE, the second field, is the number of the bytes
abbrev pub has_length : Seen → ℕ → Bool
has_length seen byte_count = option_map_or (λ f. f.value == byte_count) (slice_get seen.shown.items 1) false

-- how many fields are shown before a message's fault; none if all are
abbrev pub fault_place : MsgFault → ℕ → Seen → Option ℕ
fault_place fault.Short byte_count seen = None
fault_place fault.Length byte_count seen =
    if has_length seen byte_count then option_or seen.notes.beyond (Some 2) else Some 2
fault_place fault.Padding byte_count seen = None
fault_place fault.UnknownNumber byte_count seen = Some 1
fault_place fault.Packet byte_count seen = seen.notes.wrong_packet
fault_place fault.Missing byte_count seen = seen.notes.missing
fault_place fault.Value byte_count seen = seen.notes.refused
fault_place fault.Memory byte_count seen = None

-- the words of a frame's fault, and how many fields are shown before it; none if all are
abbrev pub frame_words : FrameFault → List ℕ
frame_words frame.Short = codes "bytes are missing"
frame_words frame.Length = codes "bytes follow the frame"
frame_words frame.Kind = codes "no frame has this kind"
frame_words frame.Value = codes "a field is out of its range"

abbrev pub frame_place : FrameFault → Seen → Option ℕ
frame_place frame.Short seen = None
frame_place frame.Length seen = seen.notes.beyond
frame_place frame.Kind seen = Some 3
frame_place frame.Value seen = seen.notes.refused

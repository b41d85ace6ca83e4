-- The end of a train's connection, and the text of its note.
use Rattle.std.specs.Prelude.{Bool, codes, false, List, None, Option, Some, true, ℕ}
use Rattle.rbc_msgs.specs.Faults.{stream_fault_number}
use Rattle.rbc_node.specs.Faults.{number_of_fault}
use Rattle.serve_line.specs.declared.clients.session_end.End.{End}
use Rattle.serve_line.specs.declared.clients.session_end.End.TheVariants.{Cut, Foreign, Left, Session}
use Rattle.serve_workers.specs.declared.end.SessionEnd.{SessionEnd}
use Rattle.serve_workers.specs.declared.end.SessionEnd.TheVariants.{Device, EndOfStream, Fault, Refused}

-- A read fails if the connection has to leave its slot. Else the connection ends with its session.
abbrev pub kept_end : SessionEnd → Bool → End
kept_end Device true = Left
kept_end Device false = Session Device
kept_end session is_leaving = Session session

-- A refused message ends the connection. Else it was cut before, or it ends as a kept one.
abbrev pub end_after : SessionEnd → Bool → Bool → Option ℕ → End
end_after session is_kept is_leaving (Some t) = Foreign t
end_after session true is_leaving None = kept_end session is_leaving
end_after session false is_leaving None = Cut

-- the engine of the refused message
abbrev pub foreign_at : End → Option ℕ
foreign_at (Foreign t) = Some t
foreign_at end = None

abbrev pub words_of : End → List ℕ
words_of (Session EndOfStream) = codes "ends"
words_of (Session (Fault fault)) = codes "is ended, stream fault"
words_of (Session Device) = codes "is lost"
words_of (Session (Refused fault)) = codes "is ended, refused"
words_of Cut = codes "is cut, its train is too slow"
words_of Left = codes "is ended, it had to leave its slot"
words_of (Foreign t) = codes "is ended, a message came over it of a train that it does not serve:"

-- the number after these words: that of a fault, or the engine
abbrev pub number_at : End → Option ℕ
number_at (Session (Fault fault)) = Some (stream_fault_number fault)
number_at (Session (Refused fault)) = Some (number_of_fault fault)
number_at (Foreign t) = Some t
number_at end = None

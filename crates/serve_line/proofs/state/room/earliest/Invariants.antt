use Rattle.std.proofs.Common.{take}
use Rattle.serve_line.proofs.RoomLemmas.Earliest.{Finds}
use Rattle.serve_line.proofs.state.room.earliest.Given as goal

abbrev pub invariant-loop-place : goal.invariant-loop-place
invariant-loop-place l = Finds l.slots (take l.place l.slots) l.found

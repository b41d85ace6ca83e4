use Rattle.std.proofs.Common.{take}
use Rattle.std.specs.List.{flat_map}
use Rattle.serve_line.proofs.fact_notes.Facts.add_piece.Given as goal
use Rattle.serve_line.specs.Facts.{Adds, facts_of}

abbrev pub invariant-loop-entry : goal.invariant-loop-entry
invariant-loop-entry l = Adds (flat_map (facts_of) (take l.entry-index l.piece)) l.initial.self l.self

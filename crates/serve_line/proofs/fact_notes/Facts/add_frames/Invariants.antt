use Rattle.std.proofs.Common.{take}
use Rattle.std.specs.List.{flat_map}
use Rattle.serve_line.proofs.fact_notes.Facts.add_frames.Given as goal
use Rattle.serve_line.specs.Facts.{Adds, fact_list, fact_of_frame}

abbrev pub invariant-loop-sent : goal.invariant-loop-sent
invariant-loop-sent l =
    Adds (flat_map (λ f. fact_list (fact_of_frame f.to f.frame.body)) (take l.sent-index l.frames))
    l.initial.self l.self

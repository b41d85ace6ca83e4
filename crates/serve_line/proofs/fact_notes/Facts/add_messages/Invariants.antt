use Rattle.std.proofs.Common.{take}
use Rattle.std.specs.List.{flat_map}
use Rattle.serve_line.proofs.fact_notes.Facts.add_messages.Given as goal
use Rattle.serve_line.specs.Facts.{Adds, fact_list, fact_of_message}

abbrev pub invariant-loop-saying : goal.invariant-loop-saying
invariant-loop-saying l =
    Adds (flat_map (λ s. fact_list (fact_of_message s.nid_engine s.message.body)) (take l.saying-index l.sayings))
    l.initial.self l.self

use Rattle.std.proofs.Common.{[], ◌≡◌, List, Some, ℕ}
use Rattle.std.specs.Io.KnownBytes.{Consumes}
use Rattle.rbc_msgs.specs.Streams.{Adds, IsRest}
use Rattle.rbc_msgs.specs.TrainText.{TrainText}
use Rattle.rbc_node.specs.Node.{centre_of}
use Rattle.serve_workers.proofs.session.run_session.Given as goal
use Rattle.serve_workers.specs.Session.{Joins}

abbrev pub invariant-loop : goal.invariant-loop
invariant-loop g l =
    (read : List ℕ) × (done : List TrainText) × (kept : List ℕ)
    × Consumes (g.S.Source.left l.initial.source) (g.S.Source.left l.source) read
    × Joins (centre_of l.initial.node) l.initial.share l.share done
    × Adds [] done read kept
    × (l.stream ≡ Some kept) × IsRest kept
    × (l.messages.items ≡ [])
    × (g.S.Source.failures l.source ≡ g.S.Source.failures l.initial.source)

use Rattle.std.proofs.Common.{drop}
use Rattle.serve_line.proofs.status.snapshot.show.Given as goal
use Rattle.serve_line.specs.declared.status.snapshot.Snapshot.{Snapshot}
use Rattle.serve_line.specs.Snapshots.{HaveLooked}

abbrev pub invariant-loop-node-2 : goal.invariant-loop-node-2
invariant-loop-node-2 g l = (last : Snapshot) → HaveLooked l.line (drop l.node-index l.nodes) l.snapshot last
    → HaveLooked l.line l.nodes l.initial.snapshot last

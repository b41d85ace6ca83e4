use Rattle.std.proofs.Common.{◌≡◌, drop}
use Rattle.serve_line.proofs.looking.page_snapshot.PageSnapshot.look.Given as goal
use Rattle.serve_line.specs.declared.status.snapshot.Snapshot.{Snapshot}
use Rattle.serve_line.specs.Snapshots.{HaveLooked}

abbrev pub invariant-loop-node : goal.invariant-loop-node
invariant-loop-node g l = record {
  shown : l.self.now ≡ l.fn.self.now;
  looks : (last : Snapshot) → HaveLooked l.line (drop l.node-index l.nodes) l.view.snapshot last
      → HaveLooked l.line l.nodes l.initial.view.snapshot last;
}

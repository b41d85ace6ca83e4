use Rattle.std.proofs.Common.{◌≡◌, ◌≤◌}
use Rattle.rbc_node.specs.Node.{centre_of}
use Rattle.serve_workers.proofs.links.send_kept_frames.Given as goal
use Rattle.serve_workers.specs.Carried.{AreKept, PutsInOrder}

abbrev pub invariant-loop : goal.invariant-loop
invariant-loop g l =
    g.C.Carrier.is_of l.carrier l.seen
    × PutsInOrder (g.C.Carrier.known l.seen) (centre_of l.node) l.to l.frames
    × AreKept (g.L.Release.awaits l.release) (g.C.Carrier.known l.seen) l.frames l.kept.stamp
    × (l.frames ≤ 65536)
    × (l.kept.centre ≡ centre_of l.node)

use Rattle.std.proofs.Common.{Bool, List, Option}
use Rattle.rbc_node.specs.Node.{centre_of}
use Rattle.serve_workers.proofs.links.receive_frames.Given as goal
use Rattle.serve_workers.specs.Carried.{TakesTurns}

abbrev pub invariant-loop : goal.invariant-loop
invariant-loop g l =
    g.C.Carrier.is_of l.carrier l.seen
    × ((turns : List (Option Bool)) × TakesTurns g.N.Order.asks g.N.Order.follows (g.C.Carrier.known l.seen)
    (centre_of l.committer.node.now) l.from l.initial.order l.order l.initial.share l.share turns)

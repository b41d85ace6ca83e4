use Rattle.std.proofs.Common.{◌≡◌, drop}
use Rattle.rbc_node.proofs.counts.count_shares.Given as goal
use Rattle.rbc_node.specs.Counted.{counted}
use Rattle.rbc_node.specs.Gather.{places_of}

abbrev pub invariant-loop-share : goal.invariant-loop-share
invariant-loop-share l =
    counted l.counts.items (places_of l.centre (drop l.share-index l.shares))
    ≡ counted l.initial.counts.items (places_of l.centre l.shares)

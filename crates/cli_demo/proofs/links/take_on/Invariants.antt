use Rattle.std.proofs.Common.{◌++◌, ◌≡◌, drop, map, take}
use Rattle.cli_demo.proofs.links.take_on.Given as goal
use Rattle.cli_demo.specs.Deliveries.{taken_by}

abbrev pub invariant-loop-link : goal.invariant-loop-link
invariant-loop-link l =
    l.link-items ≡ map (taken_by l.from l.to l.number) (take l.link-index l.fn.links.items)
    ++ drop l.link-index l.fn.links.items

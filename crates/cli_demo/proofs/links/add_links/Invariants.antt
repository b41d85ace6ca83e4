use Rattle.std.proofs.Common.{◌++◌, ◌≡◌}
use Rattle.cli_demo.specs.Deliveries.{links_to}
use Rattle.cli_demo.proofs.links.add_links.Given as goal

abbrev pub invariant-loop-to : goal.invariant-loop-to
invariant-loop-to l = l.links.items ≡ l.initial.links.items ++ links_to l.from l.to

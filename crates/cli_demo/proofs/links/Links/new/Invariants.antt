use Rattle.std.proofs.Common.{◌≡◌, length}
use Rattle.cli_demo.specs.Deliveries.{links_from}
use Rattle.cli_demo.proofs.links.Links.new.Given as goal

abbrev pub invariant-loop-from : goal.invariant-loop-from
invariant-loop-from l = l.links.items ≡ links_from (length l.line.centres) l.from

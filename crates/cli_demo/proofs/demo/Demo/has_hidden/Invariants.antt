use Rattle.std.proofs.Common.{◌≡◌}
use Rattle.cli_demo.proofs.demo.Demo.has_hidden.Given as goal
use Rattle.cli_demo.specs.Trains.{has_hidden}

abbrev pub invariant-loop-train : goal.invariant-loop-train
invariant-loop-train l = l.is_hidden ≡ has_hidden l.self l.section l.train

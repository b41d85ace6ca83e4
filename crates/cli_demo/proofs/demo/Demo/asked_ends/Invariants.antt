use Rattle.std.proofs.Common.{◌≡◌}
use Rattle.cli_demo.proofs.demo.Demo.asked_ends.Given as goal
use Rattle.cli_demo.specs.Trains.{ends_among}

abbrev pub invariant-loop-train : goal.invariant-loop-train
invariant-loop-train l = l.asked.items ≡ ends_among l.self l.is_for_all l.train

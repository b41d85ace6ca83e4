use Rattle.std.proofs.Common.{◌≡◌}
use Rattle.serve_workers.proofs.connections.releasing.say_due.Given as goal

abbrev pub invariant-loop : goal.invariant-loop
invariant-loop g l = l.lane.serving ≡ l.initial.lane.serving

use Rattle.std.proofs.Common.{◌≤◌}
use Rattle.serve_line.proofs.fact_notes.Facts.catch_up.Given as goal

abbrev pub invariant-loop : goal.invariant-loop
invariant-loop g l = l.fn.read ≤ l.read

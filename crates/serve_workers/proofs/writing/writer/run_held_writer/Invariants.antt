use Rattle.std.proofs.Common.{List, ℕ}
use Rattle.std.specs.Io.KnownBytes.{Appends}
use Rattle.serve_workers.proofs.writing.writer.run_held_writer.Given as goal
use Rattle.serve_workers.specs.Writing.Row.{IsRow}

abbrev pub invariant-loop : goal.invariant-loop
invariant-loop g l =
    (bytes : List ℕ) × IsRow bytes × Appends (g.W.Write.contents l.initial.out) (g.W.Write.contents l.out) bytes

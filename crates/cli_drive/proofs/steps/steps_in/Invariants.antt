use Rattle.std.proofs.Common.{map}
use Rattle.cli_drive.proofs.Reading.{Reads}
use Rattle.cli_drive.proofs.steps.steps_in.Given as goal

abbrev pub invariant-loop-i : goal.invariant-loop-i
invariant-loop-i l = Reads (map (λ row. row.now) l.rows) l.i l.steps.items

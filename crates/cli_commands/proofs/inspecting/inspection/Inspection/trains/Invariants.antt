use Rattle.cli_commands.proofs.inspecting.inspection.Inspection.trains.Given as goal
use Rattle.cli_commands.specs.Inspecting.Notes.{Grows}

abbrev pub invariant-loop-number : goal.invariant-loop-number
invariant-loop-number l = Grows l.initial.self l.self

use Rattle.cli_commands.proofs.inspecting.inspection.Inspection.keys.Given as goal
use Rattle.cli_commands.specs.Inspecting.Notes.{Grows}

abbrev pub invariant-loop-key : goal.invariant-loop-key
invariant-loop-key l = Grows l.initial.self l.self

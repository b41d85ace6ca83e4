use Rattle.cli_commands.proofs.inspecting.inspection.Inspection.sections.Given as goal
use Rattle.cli_commands.specs.Inspecting.Notes.{Grows}

abbrev pub invariant-loop-section : goal.invariant-loop-section
invariant-loop-section l = Grows l.initial.self l.self

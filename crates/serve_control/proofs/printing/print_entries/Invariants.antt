use Rattle.std.proofs.Common.{◌≡◌, List, take, ℕ}
use Rattle.std.specs.Io.KnownBytes.{Appends}
use Rattle.rbc_spec.specs.World.{new_world}
use Rattle.serve_control.proofs.printing.print_entries.Given as goal
use Rattle.serve_control.specs.Prints.{ArePrinted}
use Rattle.text_script.specs.rbc_world.World.{line_of, state_of}

abbrev pub invariant-loop-entry : goal.invariant-loop-entry
invariant-loop-entry g l =
    (text : List ℕ) × ArePrinted l.line (new_world l.line) (take l.entry-index l.entries) (state_of l.world) text
    × (line_of l.world ≡ l.line) × Appends (g.O.Write.contents l.initial.out) (g.O.Write.contents l.out) text

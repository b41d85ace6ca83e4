use Rattle.std.proofs.Common.{◌++◌, ◌≡◌}
use Rattle.std.specs.List.{flat_map, range_with_len}
use Rattle.serve_line.proofs.status.snapshot.Snapshot.print_sections.Given as goal
use Rattle.serve_line.specs.Snapshots.{section_row_in}

abbrev pub invariant-loop-s : goal.invariant-loop-s
invariant-loop-s l =
    l.text.items ≡ l.initial.text.items ++ flat_map (section_row_in l.line l.self) (range_with_len 0 l.s)

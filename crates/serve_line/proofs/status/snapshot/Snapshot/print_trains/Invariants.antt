use Rattle.std.proofs.Common.{◌++◌, ◌≡◌, take}
use Rattle.std.specs.List.{flat_map}
use Rattle.serve_line.proofs.status.snapshot.Snapshot.print_trains.Given as goal
use Rattle.serve_line.specs.Snapshots.{train_row_in}

abbrev pub invariant-loop-i : goal.invariant-loop-i
invariant-loop-i l =
    l.text.items ≡ l.initial.text.items ++ flat_map (train_row_in l.line l.self) (take l.i-index l.trains)

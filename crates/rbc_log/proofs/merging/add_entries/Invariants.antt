use Rattle.std.proofs.Common.{◌++◌, ◌≡◌, map, take}
use Rattle.rbc_log.proofs.merging.add_entries.Given as goal
use Rattle.rbc_log.specs.Entries.{written_of}

abbrev pub invariant-loop-entry : goal.invariant-loop-entry
invariant-loop-entry l =
    map written_of l.all.items ≡ map written_of l.initial.all.items ++ map written_of (take l.entry-index l.entries)

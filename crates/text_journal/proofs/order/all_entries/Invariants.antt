use Rattle.std.proofs.Common.{◌++◌, ◌≡◌}
use Rattle.std.specs.List.{flat_map}
use Rattle.std.specs.Vec.Iter.{into_iter_items}
use Rattle.text_journal.proofs.order.all_entries.Given as goal

-- the moved entries, and the entries of the journals not yet read, are all entries
abbrev pub invariant-loop-journal : goal.invariant-loop-journal
invariant-loop-journal l =
    l.all.items ++ flat_map (λ j. j.items) (into_iter_items l.journal-iterator)
    ≡ flat_map (λ j. j.items) (into_iter_items l.initial.journal-iterator)

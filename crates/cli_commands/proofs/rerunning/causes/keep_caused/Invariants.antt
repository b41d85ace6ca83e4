use Rattle.std.proofs.Common.{◌++◌, ◌≡◌, List}
use Rattle.std.specs.Vec.Iter.{into_iter_items}
use Rattle.cli_commands.proofs.rerunning.causes.keep_caused.Given as goal
use Rattle.cli_commands.specs.Rerunning.Causes.{IsCutOf}
use Rattle.text_journal.specs.declared.entry.Entry.{Entry}

-- of the first entries some are kept
abbrev pub invariant-loop-entry : goal.invariant-loop-entry
invariant-loop-entry l =
    (first : List Entry) × (first ++ into_iter_items l.entry-iterator ≡ into_iter_items l.initial.entry-iterator)
    × IsCutOf first l.caused

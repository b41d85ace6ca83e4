use Rattle.std.proofs.Common.{None, subst}
use Rattle.cli_commands.proofs.journal.journal_of.Goals as goal
use Rattle.cli_commands.proofs.JournalLemmas.{not_read, not_rising}
use Rattle.text_journal.specs.Order.{IsFirstFallen, stamps_of}

pub returns-clause-refused : goal.returns-clause-refused
returns-clause-refused c =
    not_read c.args.given.now c.args.centre c.args.bytes.now c.whole_length-length.result _
    c.whole_length-length.ensures (c.in-Err.ensures c.in_ok-fault_of_journal-in-Err.ensures)

pub returns-in-Ok-clause-refused : goal.returns-in-Ok-clause-refused
returns-in-Ok-clause-refused c count whole other =
    not_rising c.args.given.now c.args.centre c.args.bytes.now c.whole_length-length.result _ c.in-Ok.entries.items
    c.whole_length-length.ensures c.in-Ok.ensures.1
    (subst (λ es. ¬ IsFirstFallen (stamps_of es) None) c.deref.ensures.value
    (c.in-Err-test_stamps.ensures.fallen other))
    count whole other

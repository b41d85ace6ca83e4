use Rattle.serve_control.proofs.Printed.{entry_printed}
use Rattle.serve_control.proofs.printing.print_entry.Goals as goal

pub returns-clause-print : goal.returns-clause-print
returns-clause-print g c =
    entry_printed _ _ _ c.args.line.now c.args.entry.now _ c.in_ok-event.event c.in_ok-event.ensures.whole
    c.name_of-name.ensures c.in_ok-print_event.ensures c.in_ok-print_outcome.ensures

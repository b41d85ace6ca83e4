use Rattle.serve_control.proofs.answering.print_commit.Goals as goal
use Rattle.serve_control.proofs.Printed.{committed}

pub returns-in_ok-print_event-in-Ok : goal.returns-in_ok-print_event-in-Ok
returns-in_ok-print_event-in-Ok g c =
    committed _ _ _ _ c.args.line.now c.args.centre c.name_of.result.now c.args.event.now c.args.answer.now _ c.in-Ok.is
    c.name_of.ensures
    c.in_ok-print_event-in-Ok.ensures c.print_outcome.ensures

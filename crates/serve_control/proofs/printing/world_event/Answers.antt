use Rattle.serve_control.proofs.Printed.{message_happened, message_whole}
use Rattle.serve_control.proofs.printing.world_event.Goals as goal

pub returns-in-Ok : goal.returns-in-Ok
returns-in-Ok c = record {
  happened = message_happened c.args.entry.now c.in-Train.message c.in-Ok.bytes c.in-Train.is c.in-Ok.ensures.spelled;
  whole = message_whole c.args.entry.now c.in-Train.message c.in-Ok.bytes c.in-Train.is c.in-Ok.ensures.spelled;
}

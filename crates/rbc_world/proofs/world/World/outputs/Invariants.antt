use Rattle.std.proofs.Common.{◌≡◌, drop, map}
use Rattle.law_reached.proofs.Known.{Reaches}
use Rattle.rbc_world.proofs.world.World.outputs.Given as goal
use Rattle.rbc_world.specs.Views.{answer_of, event_of}
use Rattle.rbc_world.specs.World.{line_of, state_of}

abbrev pub invariant-loop-event : goal.invariant-loop-event
invariant-loop-event l = record {
  line : line_of l.world ≡ l.line;
  reaches : Reaches l.line (map event_of l.events) (map event_of (drop l.event-index l.events))
      (map answer_of l.answers.items) (state_of l.world);
}

use Rattle.std.proofs.Common.{◌-◌, ◌≤◌, drop, length}
use Rattle.rbc_msgs.proofs.stream_reading.read_whole.Given as goal
use Rattle.rbc_msgs.specs.Streams.{Adds}

abbrev pub invariant-loop-needed : goal.invariant-loop-needed
invariant-loop-needed l = record {
  within : l.used ≤ length l.bytes;
  read : Adds l.fn.out.items l.out.items l.bytes (drop l.used l.bytes);
}

abbrev pub decreases-loop-needed : goal.decreases-loop-needed
decreases-loop-needed l = length l.bytes - l.used

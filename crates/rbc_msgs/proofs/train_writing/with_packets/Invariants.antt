use Rattle.std.proofs.Common.{◌++◌, ◌≡◌, take}
use Rattle.std.specs.List.{AllByRecursion, flat_map}
use Rattle.rbc_msgs.proofs.train_writing.with_packets.Given as goal
use Rattle.rbc_msgs.specs.TrainSpelling.{IsFurther, packet_bits}

abbrev pub invariant-loop-packet : goal.invariant-loop-packet
invariant-loop-packet l = record {
  text : l.writer ≡ l.fn.writer ++ flat_map packet_bits (take l.packet-index l.packets);
  fits : AllByRecursion IsFurther (take l.packet-index l.packets);
}

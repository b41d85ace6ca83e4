use Rattle.std.proofs.Common.{◌+◌, ◌<◌, ◌^◌, ◌≡◌, length, take}
use Rattle.std.specs.List.{flat_map}
use Rattle.rbc_msgs.proofs.train_writing.with_further.Given as goal
use Rattle.rbc_msgs.specs.TrainSpelling.{packet_bits}

abbrev pub invariant-loop-packet : goal.invariant-loop-packet
invariant-loop-packet l = record {
  bits : l.bits ≡ l.fn.front + length (flat_map packet_bits (take l.packet-index l.packets));
  few : l.bits < 2 ^ 15;
}

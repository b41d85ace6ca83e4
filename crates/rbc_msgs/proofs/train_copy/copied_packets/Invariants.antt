use Rattle.std.proofs.Common.{◌≡◌, take}
use Rattle.rbc_msgs.proofs.train_copy.copied_packets.Given as goal

abbrev pub invariant-loop-packet : goal.invariant-loop-packet
invariant-loop-packet l = l.copy.items ≡ take l.packet-index l.packets

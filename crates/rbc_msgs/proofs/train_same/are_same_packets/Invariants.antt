use Rattle.std.proofs.Common.{◌≡◌, take}
use Rattle.rbc_msgs.proofs.train_same.are_same_packets.Given as goal

abbrev pub invariant-loop-i : goal.invariant-loop-i
invariant-loop-i l = take l.i l.a ≡ take l.i l.b

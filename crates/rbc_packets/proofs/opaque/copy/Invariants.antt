use Rattle.std.proofs.Common.{◌++◌, ◌≡◌, length}
use Rattle.rbc_packets.proofs.opaque.copy.Given as goal

abbrev pub invariant-loop-word : goal.invariant-loop-word
invariant-loop-word l = l.writer ++ l.part ≡ l.fn.writer ++ l.fn.part

abbrev pub decreases-loop-word : goal.decreases-loop-word
decreases-loop-word l = length l.part

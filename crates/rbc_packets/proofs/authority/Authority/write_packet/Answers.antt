-- How it is shown that the packet is written as its fields.
use Rattle.std.proofs.Common.{arith}
use Rattle.std.proofs.lemmas.Grind.{common_steps}
use Rattle.rbc_packets.proofs.authority.Authority.write_packet.Goals as goal
use Rattle.rbc_packets.specs.Layout.{joined}

pub returns-clause-ok : goal.returns-clause-ok
unfolding joined
returns-clause-ok c = grind (arith, common_steps)

use Rattle.std.proofs.Common.{◌∙◌, ap}
use Rattle.rbc_bits.proofs.Fields.{part_at-part}
use Rattle.rbc_bits.specs.declared.fault.BitFault.TheVariants as bits
use Rattle.rbc_bits.specs.Reading.{part_at}
use Rattle.rbc_packets.proofs.Again.{part_at-few, part_at_err}
use Rattle.rbc_packets.proofs.reading.cut.Goals as goal
use Rattle.rbc_packets.specs.declared.fault.PacketFault.TheVariants.{Short}

pub returns-in-Ok-clause-exact : goal.returns-in-Ok-clause-exact
returns-in-Ok-clause-exact c =
    ap (part_at Short c.args.n) c.in-Ok.ensures.part
    ∙ part_at-part Short c.args.n c.in-Ok.part c.cut.new.self c.in-Ok.ensures.length

pub returns-in-Err-clause-exact : goal.returns-in-Err-clause-exact
returns-in-Err-clause-exact c =
    part_at-few Short c.args.n c.args.reader.now
    (part_at_err bits.Short _ c.args.n c.args.reader.now c.in-Err.ensures.next)

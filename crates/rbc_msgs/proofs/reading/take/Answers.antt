use Rattle.std.proofs.Common.{◌∙◌, ap}
use Rattle.rbc_bits.proofs.Fields.{field_at-few, field_at-field, field_at_err}
use Rattle.rbc_bits.specs.declared.fault.BitFault.TheVariants as bits
use Rattle.rbc_bits.specs.Reading.{field_at}
use Rattle.rbc_msgs.proofs.reading.take.Goals as goal
use Rattle.rbc_msgs.specs.declared.fault.MsgFault.TheVariants.{Short}

pub returns-in-Ok-clause-exact : goal.returns-in-Ok-clause-exact
returns-in-Ok-clause-exact c =
    ap (field_at Short c.args.n) c.in-Ok.ensures.field
    ∙ field_at-field Short c.args.n c.in-Ok.value c.take.new.self c.in-Ok.ensures.fits

pub returns-in-Err-clause-exact : goal.returns-in-Err-clause-exact
returns-in-Err-clause-exact c =
    field_at-few Short c.args.n c.args.reader.now
    (field_at_err bits.Short _ c.args.n c.args.reader.now c.in-Err.ensures.next)

use Rattle.std.proofs.Common.{◌∙◌, ap, sym}
use Rattle.rbc_bits.proofs.Fields.{field_at_err, still_one, taken_of}
use Rattle.rbc_bits.proofs.part.BitPart.take.Goals as goal
use Rattle.rbc_bits.specs.declared.fault.BitFault.TheVariants.{Short}
use Rattle.rbc_bits.specs.Reading.{field_at}

pub invariant_of-self : goal.invariant_of-self
invariant_of-self c =
    still_one c.self.inside.word c.self.inside.others c.take.new.self c.args.n c.in-Ok.value
    c.self.invariant c.in-Ok.ensures.field

pub returns-in-Ok-clause-next : goal.returns-in-Ok-clause-next
returns-in-Ok-clause-next c =
    ap (field_at Short c.args.n) (sym c.self.view_is)
    ∙ taken_of c.self.inside.word c.self.inside.others c.self.invariant Short c.args.n c.in-Ok.value c.take.new.self
    c.in-Ok.ensures.fits c.in-Ok.ensures.field

pub take_other-requires-clause-few : goal.take_other-requires-clause-few
take_other-requires-clause-few c =
    rw c.in_default.ensures.err (field_at_err Short _ c.args.n _ c.in_default.ensures.next)

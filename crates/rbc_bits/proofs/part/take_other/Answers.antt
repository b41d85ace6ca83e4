use Rattle.std.proofs.Common.{arith}
use Rattle.rbc_bits.proofs.Fields.{too_few}
use Rattle.rbc_bits.proofs.part.take_other.Goals as goal
use Rattle.rbc_bits.specs.declared.fault.BitFault.TheVariants.{Short}

pub returns-then-remaining-gt0-clause-next : goal.returns-then-remaining-gt0-clause-next
returns-then-remaining-gt0-clause-next c =
    too_few c.args.word.now c.args.others.now c.requires.one Short c.args.n
    (omega (arith, c.if-remaining-gt0.true, c.remaining.ensures)) c.requires.few

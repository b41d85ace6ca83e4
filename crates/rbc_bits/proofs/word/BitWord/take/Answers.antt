use Rattle.std.proofs.Common.{◌∙◌, ◌≡◌, ap, arith, length, sym}
use Rattle.rbc_bits.proofs.Fields.{field_at-few, field_at-field}
use Rattle.rbc_bits.proofs.word.BitWord.take.Goals as goal
use Rattle.rbc_bits.proofs.Words.{length-front}
use Rattle.rbc_bits.specs.declared.fault.BitFault.TheVariants.{Short}
use Rattle.rbc_bits.specs.Reading.{field_at}

pub returns-then-self-n-clause-next : goal.returns-then-self-n-clause-next
returns-then-self-n-clause-next c =
    let left : c.self.inside.left ≡ length c.args.self.now =
    sym (length-front c.self.inside.word c.self.inside.left c.self.invariant) ∙ ap length c.self.view_is in
    field_at-few Short c.args.n c.args.self.now (omega (arith, left, c.if-self-n.true))

pub returns-clause-next : goal.returns-clause-next
returns-clause-next c =
    ap (field_at Short c.args.n) c.next.ensures.field
    ∙ field_at-field Short c.args.n _ _ c.next.ensures.fits

pub next-requires-clause-there : goal.next-requires-clause-there
next-requires-clause-there c =
    let left : c.self.inside.left ≡ length c.args.self.now =
    sym (length-front c.self.inside.word c.self.inside.left c.self.invariant) ∙ ap length c.self.view_is in
    omega (arith, left, c.if-self-n.false)

use Rattle.std.proofs.Common.{◌+◌, ◌∙◌, ◌≡◌, ap, arith, length, length-append, refl, sym}
use Rattle.rbc_bits.proofs.Fields.{field_at_err, length-field}
use Rattle.rbc_bits.specs.Bits.{field}
use Rattle.rbc_bits.specs.declared.fault.BitFault.TheVariants.{Short}
use Rattle.text_fields.proofs.look.Look.take.Goals as goal
use Rattle.text_fields.proofs.Looked.{looked-more}

pub returns-in_ok-push-in-Ok-clause-there : goal.returns-in_ok-push-in-Ok-clause-there
returns-in_ok-push-in-Ok-clause-there c = λ _.
    ap (λ p. length p.1) (sym c.self.view_is)
    ∙ ap length c.in-Ok.ensures.field
    ∙ length-append (field c.args.width c.in-Ok.value) c.take.new.self
    ∙ ap (λ n. n + length c.take.new.self) (length-field c.args.width c.in-Ok.value)

pub returns-in-Err-clause-there : goal.returns-in-Err-clause-there
returns-in-Err-clause-there c = λ there.
    let left : length c.self.inside.left ≡ length c.args.self.now.1 = ap (λ p. length p.1) c.self.view_is in
    absurd (omega (arith, left, there, field_at_err Short _ c.args.width _ c.in-Err.ensures.next))

pub returns-in-Err-clause-shown : goal.returns-in-Err-clause-shown
returns-in-Err-clause-shown c =
    let left : length c.self.inside.left ≡ length c.args.self.now.1 = ap (λ p. length p.1) c.self.view_is in (
      omega (arith, left, field_at_err Short _ c.args.width _ c.in-Err.ensures.next),
      ap (λ bits. (c.self.inside.shown.items, bits)) c.in-Err.ensures.err ∙ c.self.view_is,
    )

pub invariant_of-self-in-Ok : goal.invariant_of-self-in-Ok
invariant_of-self-in-Ok c =
    rw (c.in_ok-push-in-Ok.ensures.items, c.scale_after-self-inside.ensures)
    (looked-more c.self.inside.shown.items c.self.inside.scale _ c.self.invariant c.in-Ok.ensures.fits
    c.requires.kind refl)

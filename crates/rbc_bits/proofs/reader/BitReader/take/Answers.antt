use Rattle.std.proofs.Common.{◌++◌, ◌+◌, ◌∙◌, ◌≡◌, ◌≤◌, ap, arith, length, sym}
use Rattle.std.proofs.lemmas.Result.{err_from_is_err_and}
use Rattle.rbc_bits.proofs.Bytes.{length-bits_of, length-window, window, window-field}
use Rattle.rbc_bits.proofs.Fields.{field_at-field, field_at-short}
use Rattle.rbc_bits.proofs.reader.BitReader.take.Goals as goal
use Rattle.rbc_bits.proofs.reader.BitReader.take.Goals.{After-field_from}
use Rattle.rbc_bits.specs.Bits.{bits_of, field}
use Rattle.rbc_bits.specs.declared.fault.BitFault.TheVariants.{Short}
use Rattle.rbc_bits.specs.Reading.{field_at}

-- the part that was cut off is the field
part-is : (c : After-field_from) → c.args.self.now ≡ field c.args.n c.field_from.result ++ c.cut.new.self
part-is c =
    let r = c.part.inside in
    let bits = bits_of r.bytes.now in
    let within : r.used + r.left ≤ length bits = omega (arith, length-bits_of r.bytes.now, c.part.invariant.1) in
    let left : r.left ≡ c.args.n = sym (length-window r.used r.left bits within) ∙ ap length c.part.view_is
    ∙ c.in_ok-part.ensures.length in
    let part : c.in_ok-part.part ≡ field c.args.n c.field_from.result =
    sym c.part.view_is ∙ ap (λ n. window r.used n bits) left
    ∙ window-field r.used c.args.n c.field_from.result bits c.field_from.ensures.field in
    c.in_ok-part.ensures.part ∙ ap (λ t. t ++ c.cut.new.self) part

pub returns-in_err-part-clause-next : goal.returns-in_err-part-clause-next
returns-in_err-part-clause-next c =
    let p = err_from_is_err_and c.from_residual.result c.from_residual.ensures.1 in
    rw (p.1, p.2) (field_at-short Short _ c.args.n _ c.in_err-part.ensures.next)

pub returns-clause-field : goal.returns-clause-field
returns-clause-field c = part-is c

pub returns-clause-next : goal.returns-clause-next
returns-clause-next c =
    ap (field_at Short c.args.n) (part-is c)
    ∙ field_at-field Short c.args.n c.field_from.result c.cut.new.self c.field_from.ensures.fits

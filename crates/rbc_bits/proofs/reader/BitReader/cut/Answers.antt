use Rattle.std.proofs.Common.{◌+◌, ◌∙◌, ◌≡◌, ◌≤◌, ap, arith, length, sym}
use Rattle.rbc_bits.proofs.Bytes.{length-bits_of, length-window, part_at-short, part_at-window}
use Rattle.rbc_bits.proofs.Fields.{part_at_ok}
use Rattle.rbc_bits.proofs.reader.BitReader.cut.Goals as goal
use Rattle.rbc_bits.specs.Bits.{bits_of}
use Rattle.rbc_bits.specs.declared.fault.BitFault.TheVariants.{Short}

pub returns-then-remaining-n-clause-next : goal.returns-then-remaining-n-clause-next
returns-then-remaining-n-clause-next c =
    part_at-short Short c.args.n c.args.self.now (omega (arith, c.remaining.ensures))

pub returns-clause-next : goal.returns-clause-next
returns-clause-next c =
    let r = c.self.inside in
    let within : r.used + r.left ≤ length (bits_of r.bytes.now) =
    omega (arith, length-bits_of r.bytes.now, c.self.invariant.1) in
    let left : r.left ≡ length c.args.self.now = sym (length-window r.used r.left (bits_of r.bytes.now) within)
    ∙ ap length c.self.view_is in
    rw (← c.self.view_is) (part_at-window Short r.used r.left c.args.n (bits_of r.bytes.now) within
    (omega (arith, left, c.remaining.ensures)))

pub returns-clause-part : goal.returns-clause-part
returns-clause-part c = (part_at_ok Short c.args.n _ _ _ (returns-clause-next c)).0

pub returns-clause-length : goal.returns-clause-length
returns-clause-length c = (part_at_ok Short c.args.n _ _ _ (returns-clause-next c)).1

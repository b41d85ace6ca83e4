use Rattle.std.proofs.Common.{[], ◌++◌, ◌∙◌, ◌≡◌, ap, arith, length, length-append, sym}
use Rattle.std.proofs.lemmas.List.{append-nil, nil_from_length}
use Rattle.rbc_bits.proofs.Fields.{field_at_err, length-field}
use Rattle.rbc_bits.specs.Bits.{field}
use Rattle.rbc_bits.specs.declared.fault.BitFault.TheVariants as bits
use Rattle.rbc_packets.proofs.opaque.copy.Goals as goal

pub loop-word-smaller : goal.loop-word-smaller
loop-word-smaller c =
    omega (
      arith,
      ap length c.in-Ok.ensures.field,
      length-append (field 64 c.in-Ok.word) c.take.new.self,
      length-field 64 c.in-Ok.word,
    )

pub take-requires-2 : goal.take-requires-2
take-requires-2 c =
    omega (
      arith,
      field_at_err bits.Short _ 64 c.loop-word.part c.in_default.ensures.next,
      ap length c.in_default.ensures.err,
      c.remaining-n.ensures,
    )

pub put-requires-in-Ok-take-clause-width : goal.put-requires-in-Ok-take-clause-width
put-requires-in-Ok-take-clause-width c =
    omega (
      arith,
      field_at_err bits.Short _ 64 c.loop-word.part c.in_default.ensures.next,
      ap length c.in_default.ensures.err,
      c.remaining-n.ensures,
    )

pub unreachable-requires : goal.unreachable-requires
unreachable-requires c =
    absurd (omega (
      arith,
      field_at_err bits.Short _ c.remaining-n.result c.take.new.self c.in-Err.ensures.next,
      c.remaining-n.ensures,
    ))

pub returns-clause-ok : goal.returns-clause-ok
returns-clause-ok c =
    let last = field c.remaining-n.result c.in-Ok-take.last in
    let none : c.take-2.new.self ≡ [] =
    nil_from_length c.take-2.new.self
    (omega (
      arith,
      ap length c.in-Ok-take.ensures.field,
      length-append last c.take-2.new.self,
      length-field c.remaining-n.result c.in-Ok-take.last,
      c.remaining-n.ensures,
    )) in
    let rest : last ≡ c.loop-word.part = sym (append-nil last) ∙ ap (λ t. last ++ t) (sym none)
    ∙ sym c.in-Ok-take.ensures.field ∙ c.in_default.ensures.err in
    c.in_ok-put-in-Ok-take.ensures.ok ∙ ap (λ t. c.loop-word.writer ++ t) rest ∙ c.loop-word.invariant

use Rattle.std.proofs.Common.{◌+◌, ◌∙◌, ap, length}
use Rattle.rbc_packets.proofs.Again.{opaque-written}
use Rattle.rbc_packets.proofs.opaque.Opaque.put_few.Goals as goal

pub returns-clause-ok : goal.returns-clause-ok
returns-clause-ok c =
    opaque-written c.args.row.now c.put_header.new.row c.put_bits.new.row c.bits-bits.result _ _ c.args.self.now
    c.put_header.ensures.ok c.put_bits.ensures (c.into.ensures ∙ c.nid_packet.ensures.value)
    (ap (λ n. 21 + n) (c.from.ensures ∙ c.remaining-width.ensures ∙ ap length c.bits-bits.ensures.bits))
    c.bits-bits.ensures.bits

use Rattle.std.proofs.Common.{◌+◌, ◌∙◌, ap, length}
use Rattle.rbc_packets.proofs.Again.{opaque-written}
use Rattle.rbc_packets.proofs.opaque.Opaque.write_packet.Goals as goal

pub returns-clause-ok : goal.returns-clause-ok
returns-clause-ok c =
    opaque-written c.args.writer c.put_train_header.new.writer c.copy.new.writer c.bits-bits.result _ _ c.args.self.now
    c.in_ok-put_train_header.ensures.ok c.in_ok-copy.ensures.ok (c.into.ensures ∙ c.nid_packet.ensures.value)
    (ap (λ n. 21 + n) (c.from-l_packet.ensures ∙ c.remaining.ensures ∙ ap length c.bits-bits.ensures.bits))
    c.bits-bits.ensures.bits

use Rattle.std.proofs.Common.{◌++◌, ◌≡◌}
use Rattle.std.proofs.lemmas.Result.{IfOk-weaker}
use Rattle.rbc_packets.proofs.Again.{opaque-found}
use Rattle.rbc_packets.proofs.opaque.Opaque.read.Goals as goal
use Rattle.rbc_packets.specs.OpaqueReading.{opaque_bits}

pub returns-clause-taken : goal.returns-clause-taken
returns-clause-taken c =
    IfOk-weaker c.new.result (λ p. p ≡ record { nid_packet = c.args.nid_packet; bits = c.in_ok-part.part })
    (λ p. c.args.reader.now ≡ opaque_bits p ++ c.train_part.new.reader)
    (λ p e. opaque-found c.args.reader.now c.in_ok-part.part c.train_part.new.reader c.args.nid_packet p
    c.in_ok-part.ensures.taken e) c.new.ensures.ok

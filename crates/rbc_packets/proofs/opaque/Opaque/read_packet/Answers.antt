use Rattle.std.proofs.Common.{◌++◌, ◌∙◌, ap, subst, sym}
use Rattle.rbc_packets.proofs.Again.{opaque_at-again}
use Rattle.rbc_packets.proofs.opaque.Opaque.read_packet.Goals as goal
use Rattle.rbc_packets.specs.declared.fault.PacketFault.TheVariants.{Memory}
use Rattle.rbc_packets.specs.OpaqueReading.{opaque_at, opaque_bits}
use Rattle.rbc_packets.specs.Steps.{TakesUnless}

pub returns-clause-only : goal.returns-clause-only
returns-clause-only c =
    λ p rest fits n e. subst (λ r. TakesUnless Memory (λ x. x) c.read.result c.read.new.reader r)
    (ap (opaque_at c.args.nid_packet) e ∙ ap (λ k. opaque_at k (opaque_bits p ++ rest)) (sym n)
    ∙ opaque_at-again p rest fits) c.read.ensures.exact

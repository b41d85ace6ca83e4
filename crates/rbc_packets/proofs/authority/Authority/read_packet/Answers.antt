use Rattle.std.proofs.Common.{◌∙◌, ap}
use Rattle.rbc_packets.proofs.Again.{takes-only}
use Rattle.rbc_packets.proofs.authority.Authority.read_packet.Goals as goal
use Rattle.rbc_packets.proofs.TrackAgain.{authority_at-again}
use Rattle.rbc_packets.specs.TrackReading.{authority_at}

pub returns-clause-only : goal.returns-clause-only
returns-clause-only c =
    λ x rest fits e. takes-only c.read.result c.read.new.reader rest x _ c.read.ensures.exact (ap authority_at e
    ∙ authority_at-again x rest fits)

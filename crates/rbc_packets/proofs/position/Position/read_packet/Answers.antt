use Rattle.std.proofs.Common.{◌∙◌, ap}
use Rattle.rbc_packets.proofs.Again.{takes-only}
use Rattle.rbc_packets.proofs.position.Position.read_packet.Goals as goal
use Rattle.rbc_packets.proofs.TrackAgain.{position_at-again}
use Rattle.rbc_packets.specs.PositionReading.{position_at}

pub returns-clause-only : goal.returns-clause-only
returns-clause-only c =
    λ x rest fits e. takes-only c.read.result c.read.new.reader rest x _ c.read.ensures.exact (ap position_at e
    ∙ position_at-again x rest fits)

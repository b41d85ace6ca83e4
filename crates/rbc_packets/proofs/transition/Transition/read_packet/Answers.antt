use Rattle.std.proofs.Common.{◌∙◌, ap}
use Rattle.rbc_packets.proofs.Again.{takes-only}
use Rattle.rbc_packets.proofs.TrackAgain.{transition_at-again}
use Rattle.rbc_packets.proofs.transition.Transition.read_packet.Goals as goal
use Rattle.rbc_packets.specs.TrackReading.{transition_at}

pub returns-clause-only : goal.returns-clause-only
returns-clause-only c =
    λ x rest fits e. takes-only c.read.result c.read.new.reader rest x _ c.read.ensures.exact (ap transition_at e
    ∙ transition_at-again x rest fits)

use Rattle.std.proofs.Common.{◌∙◌, ap}
use Rattle.rbc_packets.proofs.Again.{takes-only}
use Rattle.rbc_packets.proofs.session_order.SessionOrder.read_packet.Goals as goal
use Rattle.rbc_packets.proofs.TrackAgain.{session_order_at-again}
use Rattle.rbc_packets.specs.TrackReading.{session_order_at}

pub returns-clause-only : goal.returns-clause-only
returns-clause-only c =
    λ x rest fits e. takes-only c.read.result c.read.new.reader rest x _ c.read.ensures.exact (ap session_order_at e
    ∙ session_order_at-again x rest fits)

use Rattle.std.proofs.Common.{◌∙◌, sym}
use Rattle.rbc_packets.proofs.Again.{track-found}
use Rattle.rbc_packets.proofs.session_order.SessionOrder.read.Goals as goal
use Rattle.rbc_packets.specs.TrackSpelling.{session_order_fields}

pub returns-clause-taken : goal.returns-clause-taken
returns-clause-taken c =
    track-found c.args.reader.now c.in_ok-bits.bits c.fields.new.part c.track_part.new.reader
    (session_order_fields c.in_ok-session_order.session_order) c.in_ok-bits.ensures.taken (sym c.part-part.ensures
    ∙ c.in_ok-session_order.ensures.taken) c.in_ok-end.ensures.none

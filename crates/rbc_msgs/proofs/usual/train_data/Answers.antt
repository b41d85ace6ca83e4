use Rattle.std.proofs.Common.{refl}
use Rattle.rbc_msgs.proofs.Placed.{packet-spelled, position-spelled}
use Rattle.rbc_msgs.proofs.TrainLaws.{read_train-again, spells-alone}
use Rattle.rbc_msgs.proofs.usual.train_data.Goals as goal

pub returns-clause-found : goal.returns-clause-found
returns-clause-found c =
    let h = c.in_ok-header in
    rw c.new.ensures (spells-alone c.args.bytes.now _ 129 h.header.rest c.data_packet.new.reader refl h.ensures.taken
    (packet-spelled h.header.rest c.position_bits.new.reader c.data_packet.new.reader c.in_ok-position.position
    c.in-Ok.packet
    (position-spelled h.header.rest c.in_ok-bits.bits c.position_bits.new.reader c.in_ok-position.position
    c.in_ok-bits.ensures.taken c.in_ok-bits.ensures.length c.in_ok-position.ensures.found.0)
    c.in-Ok.ensures.taken)
    c.none.ensures c.in-Ok-end.ensures.filling h.ensures.length h.ensures.time h.ensures.engine
    (c.in_ok-position.ensures.found.1, c.in-Ok.ensures.number, c.in-Ok.ensures.fits))

pub returns-clause-exact : goal.returns-clause-exact
returns-clause-exact c = read_train-again c.args.bytes.now _ (returns-clause-found c)

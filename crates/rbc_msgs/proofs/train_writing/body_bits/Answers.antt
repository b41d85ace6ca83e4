use Rattle.std.proofs.Common.{ap}
use Rattle.rbc_msgs.proofs.Needed.{field-and-position, position-alone, position-and-packet}
use Rattle.rbc_msgs.proofs.train_writing.body_bits.Goals as goal
use Rattle.rbc_msgs.specs.TrainSpelling.{train_body_bits}
use Rattle.rbc_vars.specs.Values.{q_status_value}

pub returns-in-TrainData-clause-value : goal.returns-in-TrainData-clause-value
returns-in-TrainData-clause-value c =
    position-and-packet c.args.body.now c.in-TrainData.position c.in-TrainData.packet _ _
    (ap train_body_bits c.in-TrainData.is) c.l_packet.ensures.value c.packet_length.ensures.value

pub returns-in-Request-clause-value : goal.returns-in-Request-clause-value
returns-in-Request-clause-value c =
    field-and-position c.args.body.now c.in-Request.position 5 c.in-Request.q_marqstreason _
    (ap train_body_bits c.in-Request.is) c.l_packet-in-Request.ensures.value

pub returns-in-Report-clause-value : goal.returns-in-Report-clause-value
returns-in-Report-clause-value c =
    position-alone c.args.body.now c.in-Report.position _
    (ap train_body_bits c.in-Report.is) c.l_packet-in-Report.ensures.value

pub returns-in-ShorteningGranted-clause-value : goal.returns-in-ShorteningGranted-clause-value
returns-in-ShorteningGranted-clause-value c =
    field-and-position c.args.body.now c.in-ShorteningGranted.position 32 c.in-ShorteningGranted.request _
    (ap train_body_bits c.in-ShorteningGranted.is) c.l_packet-in-ShorteningGranted.ensures.value

pub returns-in-ShorteningRejected-clause-value : goal.returns-in-ShorteningRejected-clause-value
returns-in-ShorteningRejected-clause-value c =
    field-and-position c.args.body.now c.in-ShorteningRejected.position 32 c.in-ShorteningRejected.request _
    (ap train_body_bits c.in-ShorteningRejected.is) c.l_packet-in-ShorteningRejected.ensures.value

pub returns-in-EndOfMission-clause-value : goal.returns-in-EndOfMission-clause-value
returns-in-EndOfMission-clause-value c =
    position-alone c.args.body.now c.in-EndOfMission.position _
    (ap train_body_bits c.in-EndOfMission.is) c.l_packet-in-EndOfMission.ensures.value

pub returns-in-StartOfMission-clause-value : goal.returns-in-StartOfMission-clause-value
returns-in-StartOfMission-clause-value c =
    field-and-position c.args.body.now c.in-StartOfMission.position 2 (q_status_value c.in-StartOfMission.q_status) _
    (ap train_body_bits c.in-StartOfMission.is) c.l_packet-in-StartOfMission.ensures.value

-- The plain data of a train's message, and the ranges of its fields.
use Rattle.std.specs.Prelude.{◌≡◌, ◌≢◌, ◌<◌, ◌^◌, All}
use Rattle.rbc_spec.specs.Message.{unknown_time}
use Rattle.rbc_msgs.specs.TrainText.{TrainText}
use Rattle.rbc_msgs.specs.declared.train_body.TrainBody.{TrainBody}
use Rattle.rbc_msgs.specs.declared.train_body.TrainBody.TheVariants.{TrainData}
use Rattle.rbc_msgs.specs.declared.train.TrainMsg.TheInside.{Inside}

abbrev pub train_text : Inside → TrainText
train_text m = record { t_train = m.t_train; nid_engine = m.nid_engine; body = m.body; further = m.further }

-- the data of message 129 are packet 11
abbrev pub HasItsPackets : TrainBody → Type 0
HasItsPackets (TrainData position packet) = packet.nid_packet ≡ 11
HasItsPackets other = Unit {0}

-- T_TRAIN is known, NID_ENGINE has room in its field, and no further packet has the number of a position report
abbrev pub HasTrainRanges : Inside → Type 0
HasTrainRanges m =
    (m.t_train < unknown_time) × (m.nid_engine < 2 ^ 24) × HasItsPackets m.body × All (λ p. p.nid_packet ≢ 0) m.further

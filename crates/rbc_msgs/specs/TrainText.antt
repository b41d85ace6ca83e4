-- The content of a train's message in bytes, with whole packets (8.6).
use Rattle.std.specs.Prelude.{ℕ, List}
use Rattle.rbc_packets.specs.Packet.{Packet}
use Rattle.rbc_msgs.specs.declared.train_body.TrainBody.{TrainBody}

-- the header, the body, and the further packets in their order
pub record TrainText : Type 0 where
  pub t_train : ℕ
  pub nid_engine : ℕ
  pub body : TrainBody
  pub further : List Packet

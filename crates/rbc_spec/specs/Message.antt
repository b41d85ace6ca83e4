-- The messages of trains and to trains (8.6, 8.7): the fields that a centre's step reads and sends, without the layout
-- of packets. T_TRAIN of a train's message is the train's clock when it was sent. T_TRAIN of a message to a train
-- counts, from 1, the messages that the centre has sent to this train (profile).
use Rattle.std.specs.Prelude.{ℕ, Bool, Option, nat_le}
use Rattle.rbc_spec.specs.Maps.{has}
use Rattle.rbc_spec.specs.Place.{Position}

-- Rules: MS-1
pub data TrainBody : Type 0 where
  TrainData : (position : Position) → TrainBody  -- 129 Validated Train Data
  Request : (position : Position) → TrainBody  -- 132 MA Request
  Report : (position : Position) → TrainBody  -- 136 Train Position Report
  -- 137 Request to shorten MA is granted: T_TRAIN of the request
  ShorteningGranted : (stamp : ℕ) (position : Position) → TrainBody
  ShorteningRejected : (stamp : ℕ) (position : Position) → TrainBody  -- 138 Request to shorten MA is rejected
  EndOfMission : (position : Position) → TrainBody  -- 150 End of Mission
  InitiationOfSession : TrainBody  -- 155 Initiation of a communication session (3.5.3)
  TerminationOfSession : TrainBody  -- 156 Termination of a communication session (3.5.5)
  StartOfMission : (is_valid : Bool) (position : Position) → TrainBody  -- 157 SoM Position Report: Q_STATUS is 1 (5.4)
  SessionEstablished : TrainBody  -- 159 Session Established (3.5.3)

-- Rules: MS-1
pub record TrainMessage : Type 0 where
  pub t_train : ℕ
  pub nid_engine : ℕ
  pub body : TrainBody

-- T_TRAIN is not above the last that was received: the message is late or repeated (3.16.3)
-- Rules: SI-5
abbrev pub is_stale : ℕ → Option ℕ → Bool
is_stale stamp heard = has (λ last. nat_le stamp last) heard

-- Rules: MS-5
pub data TrackBody : Type 0 where
  Authority : (l_endsection : ℕ) → TrackBody  -- 3 Movement Authority: its end, in metres from the group (3.8)
  DataAcknowledged : (stamp : ℕ) → TrackBody  -- 8 Acknowledgement of Train Data: T_TRAIN of the train data
  ShorteningRequest : (l_endsection : ℕ) → TrackBody  -- 9 Request to Shorten MA (3.8.6)
  Transition : (d_rbctr nid_c nid_rbc : ℕ) → TrackBody  -- 24 with packet 131: RBC transition order (3.15.1)
  EndSession : (nid_c nid_rbc : ℕ) → TrackBody  -- 24 with packet 42: it has to end its session with this centre
  SystemVersion : TrackBody  -- 32 RBC/RIU System Version, the answer to message 155 (3.5.3)
  TerminationAcknowledged : TrackBody  -- 39 Acknowledgement of termination of a communication session
  TrainRejected : TrackBody  -- 40 Train Rejected
  TrainAccepted : TrackBody  -- 41 Train Accepted

-- Rules: MS-2
pub record TrackMessage : Type 0 where
  pub t_train : ℕ
  pub nid_lrbg : ℕ
  pub body : TrackBody

-- NID_LRBG if no balise group is meant (7.5)
-- Rules: MS-4
abbrev pub unknown_group : ℕ
unknown_group = 16777215

-- T_TRAIN if the time is not known; no header has it (7.5, profile)
abbrev pub unknown_time : ℕ
unknown_time = 4294967295

-- Which messages are read, by NID_MESSAGE, and the least L_MESSAGE of each: its header and fixed fields in whole
-- bytes (SUBSET-026 8.6, 8.7).
use Rattle.std.specs.Prelude.{ℕ, ◌==◌, List, [], ◌∷◌, Result}
use Rattle.std.specs.Option.{ok_or}
use Rattle.std.specs.List.{find}
use Rattle.rbc_msgs.specs.declared.fault.MsgFault.{MsgFault}
use Rattle.rbc_msgs.specs.declared.fault.MsgFault.TheVariants.{UnknownNumber}
use Rattle.rbc_msgs.specs.declared.number.TrainNumber.{TrainNumber}
use Rattle.rbc_msgs.specs.declared.number.TrainNumber.TheVariants as train
use Rattle.rbc_msgs.specs.declared.number.TrackNumber.{TrackNumber}
use Rattle.rbc_msgs.specs.declared.number.TrackNumber.TheVariants as track

-- ## Messages of trains

abbrev pub train_number_value : TrainNumber → ℕ
train_number_value train.TrainData = 129
train_number_value train.Request = 132
train_number_value train.Report = 136
train_number_value train.ShorteningGranted = 137
train_number_value train.ShorteningRejected = 138
train_number_value train.EndOfMission = 150
train_number_value train.InitiationOfSession = 155
train_number_value train.TerminationOfSession = 156
train_number_value train.StartOfMission = 157
train_number_value train.SessionEstablished = 159

abbrev pub train_numbers : List TrainNumber
train_numbers =
    train.TrainData ∷ train.Request ∷ train.Report ∷ train.ShorteningGranted ∷ train.ShorteningRejected
    ∷ train.EndOfMission
    ∷ train.InitiationOfSession ∷ train.TerminationOfSession ∷ train.StartOfMission ∷ train.SessionEstablished ∷ []

-- the message with this NID_MESSAGE
unfoldable pub train_of_number : ℕ → Result TrainNumber MsgFault
train_of_number n = ok_or (find (λ k. train_number_value k == n) train_numbers) UnknownNumber

-- its least L_MESSAGE
abbrev pub least_train_length : TrainNumber → ℕ
least_train_length train.ShorteningGranted = 14
least_train_length train.ShorteningRejected = 14
least_train_length other = 10

-- ## Messages of centres

abbrev pub track_number_value : TrackNumber → ℕ
track_number_value track.MovementAuthority = 3
track_number_value track.DataAcknowledged = 8
track_number_value track.ShorteningRequest = 9
track_number_value track.GeneralMessage = 24
track_number_value track.SystemVersion = 32
track_number_value track.TerminationAcknowledged = 39
track_number_value track.TrainRejected = 40
track_number_value track.TrainAccepted = 41

abbrev pub track_numbers : List TrackNumber
track_numbers =
    track.MovementAuthority ∷ track.DataAcknowledged ∷ track.ShorteningRequest ∷ track.GeneralMessage
    ∷ track.SystemVersion
    ∷ track.TerminationAcknowledged ∷ track.TrainRejected ∷ track.TrainAccepted ∷ []

-- the message with this NID_MESSAGE
unfoldable pub track_of_number : ℕ → Result TrackNumber MsgFault
track_of_number n = ok_or (find (λ k. track_number_value k == n) track_numbers) UnknownNumber

-- its least L_MESSAGE
abbrev pub least_track_length : TrackNumber → ℕ
least_track_length track.DataAcknowledged = 14
least_track_length track.SystemVersion = 11
least_track_length other = 10

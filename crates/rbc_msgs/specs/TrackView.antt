-- The plain data of a centre's message, and the ranges of its fields.
use Rattle.std.specs.Prelude.{◌≡◌, ◌<◌, ◌^◌, refl}
use Rattle.std.proofs.Common.{ap}
use Rattle.rbc_spec.specs.Message.{TrackMessage, unknown_time}
use Rattle.rbc_msgs.specs.Bodies.{track_body, track_body_back}
use Rattle.rbc_msgs.specs.declared.track.TrackBody.{TrackBody}
use Rattle.rbc_msgs.specs.declared.track.TrackBody.TheVariants as track
use Rattle.rbc_msgs.specs.declared.track.TrackMsg.TheInside.{Inside}

-- the message that a centre's step knows
abbrev pub track_message : Inside → TrackMessage
track_message m = record { t_train = m.t_train; nid_lrbg = m.nid_lrbg; body = track_body m.body }

-- the message in memory for a message that a centre's step knows
abbrev pub track_inside : TrackMessage → Inside
track_inside m = record { t_train = m.t_train; nid_lrbg = m.nid_lrbg; body = track_body_back m.body }

-- T_TRAIN is known, and each value has room in its field
abbrev pub HasTrackRanges : Inside → Type 0
HasTrackRanges m = (m.t_train < unknown_time) × (m.nid_lrbg < 2 ^ 24)

body_back : (b : TrackBody) → track_body_back (track_body b) ≡ b
body_back (track.Authority a) = refl
body_back (track.DataAcknowledged stamp) = refl
body_back (track.ShorteningRequest a) = refl
body_back (track.Transition t) = refl
body_back (track.EndSession o) = refl
body_back track.SystemVersion = refl
body_back track.TerminationAcknowledged = refl
body_back track.TrainRejected = refl
body_back track.TrainAccepted = refl

-- back from the message to its fields
pub track_back : (m : Inside) → HasTrackRanges m → track_inside (track_message m) ≡ m
track_back m h =
    ap (λ (b : TrackBody). record { t_train = m.t_train; nid_lrbg = m.nid_lrbg; body = b }) (body_back m.body)

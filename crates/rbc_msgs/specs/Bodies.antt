-- The messages to trains, as the rules of a centre have them.
use Rattle.rbc_spec.specs.Message as said
use Rattle.rbc_msgs.specs.declared.track.TrackBody.{TrackBody}
use Rattle.rbc_msgs.specs.declared.track.TrackBody.TheVariants as track

abbrev pub track_body : TrackBody → said.TrackBody
track_body (track.Authority a) = said.Authority a.l_endsection
track_body (track.DataAcknowledged stamp) = said.DataAcknowledged stamp
track_body (track.ShorteningRequest a) = said.ShorteningRequest a.l_endsection
track_body (track.Transition t) = said.Transition t.d_rbctr t.nid_c t.nid_rbc
track_body (track.EndSession o) = said.EndSession o.nid_c o.nid_rbc
track_body track.SystemVersion = said.SystemVersion
track_body track.TerminationAcknowledged = said.TerminationAcknowledged
track_body track.TrainRejected = said.TrainRejected
track_body track.TrainAccepted = said.TrainAccepted

-- the body in memory for a body that a centre's step knows
abbrev pub track_body_back : said.TrackBody → TrackBody
track_body_back (said.Authority l) = track.Authority (record { l_endsection = l })
track_body_back (said.DataAcknowledged stamp) = track.DataAcknowledged stamp
track_body_back (said.ShorteningRequest l) = track.ShorteningRequest (record { l_endsection = l })
track_body_back (said.Transition d c r) = track.Transition (record { d_rbctr = d; nid_c = c; nid_rbc = r })
track_body_back (said.EndSession c r) = track.EndSession (record { nid_c = c; nid_rbc = r })
track_body_back said.SystemVersion = track.SystemVersion
track_body_back said.TerminationAcknowledged = track.TerminationAcknowledged
track_body_back said.TrainRejected = track.TrainRejected
track_body_back said.TrainAccepted = track.TrainAccepted

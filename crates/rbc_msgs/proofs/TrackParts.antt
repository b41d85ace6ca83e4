-- The parts of a centre's message are read: its packets, its number and its body.
use Rattle.std.proofs.Common.{[], ◌*◌, ◌++◌, ◌+◌, ◌<◌, ◌^◌, ◌∙◌, ◌∷◌, ◌≡◌, ◌≤◌, ap, append_assoc, arith, Bool, List, Ok}
use Rattle.std.proofs.Common.{refl, ℕ}
use Rattle.rbc_bits.proofs.Fields.{field_at-field}
use Rattle.rbc_bits.specs.Bits.{field}
use Rattle.rbc_msgs.proofs.Spelled.{fixed_at-again, required_at-again}
use Rattle.rbc_msgs.specs.declared.fault.MsgFault.TheVariants.{Missing, Short}
use Rattle.rbc_msgs.specs.declared.number.TrackNumber.{TrackNumber}
use Rattle.rbc_msgs.specs.declared.number.TrackNumber.TheVariants as number
use Rattle.rbc_msgs.specs.Numbers.{least_track_length, track_of_number}
use Rattle.rbc_msgs.specs.TrackReading.{end_of_authority_at, end_of_session_at, general_at, track_body_at}
use Rattle.rbc_msgs.specs.TrackReading.{transition_order_at}
use Rattle.rbc_msgs.specs.TrackSpelling.{track_body_fields, track_number, TrackBodyFits}
use Rattle.rbc_packets.proofs.Again.{joined-cons, joined-followed, joined-nil}
use Rattle.rbc_packets.proofs.TrackAgain.{authority_at-again, session_order_at-again, transition_at-again}
use Rattle.rbc_packets.specs.Layout.{Field, joined, track_packet, widths}
use Rattle.rbc_packets.specs.TrackSpelling.{authority_fields, session_order_fields, transition_fields}
use Rattle.rbc_spec.specs.Message.{Authority, DataAcknowledged, EndSession, ShorteningRequest, SystemVersion}
use Rattle.rbc_spec.specs.Message.{TerminationAcknowledged, TrackBody, TrainAccepted, TrainRejected, Transition}

-- ---- a spelled message is read

-- a packet, and the bits after it
packet-parts : (n : ℕ) (fields : List Field) (rest : List Bool)
    → joined ((8, n) ∷ fields) ++ rest ≡ field 8 n ++ (joined fields ++ rest)
packet-parts n fields rest =
    ap (λ t. t ++ rest) (joined-cons (8, n) fields) ∙ append_assoc (field 8 n) (joined fields) rest

authority-again : (l : ℕ) (rest : List Bool) → l < 2 ^ 15
    → end_of_authority_at (joined ((8, 15) ∷ track_packet (authority_fields (record { l_endsection = l }))) ++ rest)
    ≡ Ok (l, rest)
unfolding end_of_authority_at
authority-again l rest fits =
    rw (
      packet-parts 15 (track_packet (authority_fields (record { l_endsection = l }))) rest,
      required_at-again 15 _ (omega arith),
      authority_at-again (record { l_endsection = l }) rest fits,
    ) refl

transition-again : (d c r : ℕ) (rest : List Bool) → TrackBodyFits (Transition d c r)
    → general_at (joined (track_body_fields (Transition d c r)) ++ rest) ≡ Ok (Transition d c r, rest)
unfolding general_at transition_order_at
transition-again d c r rest fits =
    rw (
      packet-parts 131 (track_packet (transition_fields (record { d_rbctr = d; nid_c = c; nid_rbc = r }))) rest,
      field_at-field Missing 8 131 _ (omega arith),
      transition_at-again (record { d_rbctr = d; nid_c = c; nid_rbc = r }) rest fits,
    ) refl

session-again : (c r : ℕ) (rest : List Bool) → TrackBodyFits (EndSession c r)
    → general_at (joined (track_body_fields (EndSession c r)) ++ rest) ≡ Ok (EndSession c r, rest)
unfolding general_at end_of_session_at
session-again c r rest fits =
    rw (
      packet-parts 42 (track_packet (session_order_fields (record { nid_c = c; nid_rbc = r }))) rest,
      field_at-field Missing 8 42 _ (omega arith),
      session_order_at-again (record { nid_c = c; nid_rbc = r }) rest fits,
    ) refl

pub kind : TrackBody → TrackNumber
kind (Authority l) = number.MovementAuthority
kind (DataAcknowledged stamp) = number.DataAcknowledged
kind (ShorteningRequest l) = number.ShorteningRequest
kind (Transition d c r) = number.GeneralMessage
kind (EndSession c r) = number.GeneralMessage
kind SystemVersion = number.SystemVersion
kind TerminationAcknowledged = number.TerminationAcknowledged
kind TrainRejected = number.TrainRejected
kind TrainAccepted = number.TrainAccepted

pub number-again : (b : TrackBody) → track_of_number (track_number b) ≡ Ok (kind b)
unfolding track_of_number kind
number-again (Authority l) = refl
number-again (DataAcknowledged stamp) = refl
number-again (ShorteningRequest l) = refl
number-again (Transition d c r) = refl
number-again (EndSession c r) = refl
number-again SystemVersion = refl
number-again TerminationAcknowledged = refl
number-again TrainRejected = refl
number-again TrainAccepted = refl

pub number-fits : (b : TrackBody) → track_number b < 2 ^ 8
number-fits (Authority l) = omega arith
number-fits (DataAcknowledged stamp) = omega arith
number-fits (ShorteningRequest l) = omega arith
number-fits (Transition d c r) = omega arith
number-fits (EndSession c r) = omega arith
number-fits SystemVersion = omega arith
number-fits TerminationAcknowledged = omega arith
number-fits TrainRejected = omega arith
number-fits TrainAccepted = omega arith

pub least : (b : TrackBody) (n : ℕ) → 75 + widths (track_body_fields b) ≤ 8 * n → least_track_length (kind b) ≤ n
unfolding kind
least (Authority l) n h = omega arith
least (DataAcknowledged stamp) n h = omega arith
least (ShorteningRequest l) n h = omega arith
least (Transition d c r) n h = omega arith
least (EndSession c r) n h = omega arith
least SystemVersion n h = omega arith
least TerminationAcknowledged n h = omega arith
least TrainRejected n h = omega arith
least TrainAccepted n h = omega arith

pub most : (b : TrackBody) → widths (track_body_fields b) ≤ 200
most (Authority l) = omega arith
most (DataAcknowledged stamp) = omega arith
most (ShorteningRequest l) = omega arith
most (Transition d c r) = omega arith
most (EndSession c r) = omega arith
most SystemVersion = omega arith
most TerminationAcknowledged = omega arith
most TrainRejected = omega arith
most TrainAccepted = omega arith

one-field : (n v : ℕ) (rest : List Bool) → joined ((n, v) ∷ []) ++ rest ≡ field n v ++ rest
one-field n v rest = joined-followed ((n, v) ∷ []) rest

no-field : (rest : List Bool) → joined [] ++ rest ≡ rest
no-field rest = ap (λ t. t ++ rest) joined-nil

pub body-again : (b : TrackBody) (rest : List Bool) → TrackBodyFits b
    → track_body_at (kind b) (joined (track_body_fields b) ++ rest) ≡ Ok (b, rest)
unfolding kind
body-again (Authority l) rest fits = rw (authority-again l rest fits) refl
body-again (DataAcknowledged stamp) rest fits =
    rw (one-field 32 stamp rest, field_at-field Short 32 stamp rest fits) refl
body-again (ShorteningRequest l) rest fits = rw (authority-again l rest fits) refl
body-again (Transition d c r) rest fits = transition-again d c r rest fits
body-again (EndSession c r) rest fits = session-again c r rest fits
body-again SystemVersion rest fits = rw (one-field 7 32 rest, fixed_at-again 7 32 rest (omega arith)) refl
body-again TerminationAcknowledged rest fits = rw (no-field rest) refl
body-again TrainRejected rest fits = rw (no-field rest) refl
body-again TrainAccepted rest fits = rw (no-field rest) refl

-- The parts of a train's message are read: its packets, its number and its body.
use Rattle.std.proofs.Common.{[], ◌*◌, ◌++◌, ◌+◌, ◌<◌, ◌^◌, ◌∙◌, ◌∷◌, ◌≡◌, ◌≤◌, ap, append_assoc, arith, Bool, eqb}
use Rattle.std.proofs.Common.{false, length, length-append, List, ltb, Ok, refl, suc, sym, true, zero, ℕ}
use Rattle.std.proofs.lemmas.Bool.{le-ltb, lt-ltb, ne_eqb}
use Rattle.std.proofs.lemmas.List.Concat.{flat_map-cons}
use Rattle.std.specs.List.{AllByRecursion, flat_map}
use Rattle.rbc_bits.proofs.Fields.{field_at-field}
use Rattle.rbc_bits.specs.Bits.{field}
use Rattle.rbc_msgs.proofs.Spelled.{required_at-again}
use Rattle.rbc_msgs.specs.declared.fault.MsgFault.TheVariants as faults
use Rattle.rbc_msgs.specs.declared.number.TrainNumber.{TrainNumber}
use Rattle.rbc_msgs.specs.declared.number.TrainNumber.TheVariants as number
use Rattle.rbc_msgs.specs.declared.train_body.TrainBody.{TrainBody}
use Rattle.rbc_msgs.specs.declared.train_body.TrainBody.TheVariants.{EndOfMission, InitiationOfSession, Report, Request}
use Rattle.rbc_msgs.specs.declared.train_body.TrainBody.TheVariants.{SessionEstablished, ShorteningGranted}
use Rattle.rbc_msgs.specs.declared.train_body.TrainBody.TheVariants.{ShorteningRejected, StartOfMission}
use Rattle.rbc_msgs.specs.declared.train_body.TrainBody.TheVariants.{TerminationOfSession, TrainData}
use Rattle.rbc_msgs.specs.Numbers.{least_train_length, train_of_number}
use Rattle.rbc_msgs.specs.TrainReading.{answered_at, data_packet_at, further_at, further_packet_at, position_packet_at}
use Rattle.rbc_msgs.specs.TrainReading.{request_at, start_of_mission_at, train_body_at, train_data_at}
use Rattle.rbc_msgs.specs.TrainSpelling.{IsFurther, packet_bits, position_packet, train_body_bits, train_number}
use Rattle.rbc_msgs.specs.TrainSpelling.{TrainBodyFits}
use Rattle.rbc_packets.proofs.Again.{joined-cons, joined-followed, length-joined, opaque_at-again}
use Rattle.rbc_packets.proofs.TrackAgain.{position_at-again}
use Rattle.rbc_packets.specs.declared.position.Position.{Position}
use Rattle.rbc_packets.specs.Layout.{Field, joined, train_packet, widths}
use Rattle.rbc_packets.specs.OpaqueReading.{opaque_at, opaque_bits}
use Rattle.rbc_packets.specs.Packet.{Packet, PacketFits}
use Rattle.rbc_packets.specs.PositionSpelling.{position_fields, PositionFits}
use Rattle.rbc_vars.proofs.Values.{q_status-again, q_status-fits}
use Rattle.rbc_vars.specs.Values.{q_status_value}

-- ---- spelled packets are read

-- a field, and the fields after it
pub field-parts : (n v : ℕ) (fields : List Field) (rest : List Bool)
    → joined ((n, v) ∷ fields) ++ rest ≡ field n v ++ (joined fields ++ rest)
field-parts n v fields rest =
    ap (λ t. t ++ rest) (joined-cons (n, v) fields) ∙ append_assoc (field n v) (joined fields) rest

packet-parts : (p : Packet) (rest : List Bool) → packet_bits p ++ rest ≡ field 8 p.nid_packet ++ (opaque_bits p ++ rest)
packet-parts p rest =
    append_assoc (joined ((8, p.nid_packet) ∷ [])) (opaque_bits p) rest
    ∙ joined-followed ((8, p.nid_packet) ∷ []) (opaque_bits p ++ rest)

pub length-packet : (p : Packet) → length (packet_bits p) ≡ 21 + length p.bits
unfolding opaque_bits
length-packet p =
    omega (
      arith,
      length-append (joined ((8, p.nid_packet) ∷ [])) (opaque_bits p),
      length-joined ((8, p.nid_packet) ∷ []),
      length-append (joined ((13, 21 + length p.bits) ∷ [])) p.bits,
      length-joined ((13, 21 + length p.bits) ∷ []),
    )

pub length-position : (p : Position) → length (joined (position_packet p)) ≡ 21 + widths (position_fields p)
length-position p = omega (arith, length-joined (position_packet p))

position-again : (p : Position) (rest : List Bool) → PositionFits p
    → position_packet_at (joined (position_packet p) ++ rest) ≡ Ok (p, rest)
unfolding position_packet_at
position-again p rest fits =
    rw (
      field-parts 8 0 (train_packet (position_fields p)) rest,
      required_at-again 0 _ (omega arith),
      position_at-again p rest fits,
    ) refl

data-again : (p : Packet) (rest : List Bool) → p.nid_packet ≡ 11 → PacketFits p
    → data_packet_at (packet_bits p ++ rest) ≡ Ok (p, rest)
unfolding data_packet_at
data-again p rest eleven fits =
    let at : packet_bits p ++ rest ≡ field 8 11 ++ (opaque_bits p ++ rest) =
    packet-parts p rest ∙ ap (λ n. field 8 n ++ (opaque_bits p ++ rest)) eleven in
    let read : opaque_at 11 (opaque_bits p ++ rest) ≡ Ok (p, rest) =
    ap (λ n. opaque_at n (opaque_bits p ++ rest)) (sym eleven) ∙ opaque_at-again p rest fits in
    rw (at, required_at-again 11 (opaque_bits p ++ rest) (omega arith), read) refl

further_packet-again : (p : Packet) (rest : List Bool) → IsFurther p
    → further_packet_at (packet_bits p ++ rest) ≡ Ok (p, rest)
unfolding further_packet_at
further_packet-again p rest fits =
    let other : eqb p.nid_packet 0 ≡ false = ne_eqb _ _ fits.0 in
    rw (
      packet-parts p rest,
      field_at-field faults.Short 8 p.nid_packet (opaque_bits p ++ rest) fits.1.nid_packet,
      other,
      opaque_at-again p rest fits.1,
    ) refl

pub further-again : (n : ℕ) (ps : List Packet) (rest : List Bool) → AllByRecursion IsFurther ps → length rest < 8
    → length (flat_map packet_bits ps ++ rest) ≤ n
    → further_at n (flat_map packet_bits ps ++ rest) ≡ Ok (ps, rest)
unfolding further_at
further-again zero [] rest fits few enough = refl
further-again zero (p ∷ ps) rest fits few enough =
    absurd (omega (
      arith,
      length-append (flat_map packet_bits (p ∷ ps)) rest,
      ap length (flat_map-cons packet_bits p ps),
      length-append (packet_bits p) (flat_map packet_bits ps),
      length-packet p,
    ))
further-again (suc n) [] rest fits few enough = let short : ltb (length rest) 8 ≡ true = lt-ltb _ _ few in rw short refl
further-again (suc n) (p ∷ ps) rest fits few enough =
    let others = flat_map packet_bits ps ++ rest in
    let at : flat_map packet_bits (p ∷ ps) ++ rest ≡ packet_bits p ++ others =
    ap (λ t. t ++ rest) (flat_map-cons packet_bits p ps)
    ∙ append_assoc (packet_bits p) (flat_map packet_bits ps) rest in
    let whole = ap length at in
    let both = length-append (packet_bits p) others in
    let first = length-packet p in
    let long : ltb (length (packet_bits p ++ others)) 8 ≡ false = le-ltb _ _ (omega arith) in
    let later : further_at n others ≡ Ok (ps, rest) = further-again n ps rest fits.1 few (omega arith) in
    ap (further_at (suc n)) at ∙ rw (long, further_packet-again p others fits.0, later) refl

-- ---- spelled messages are read

pub kind : TrainBody → TrainNumber
kind (TrainData position packet) = number.TrainData
kind (Request reason position) = number.Request
kind (Report position) = number.Report
kind (ShorteningGranted request position) = number.ShorteningGranted
kind (ShorteningRejected request position) = number.ShorteningRejected
kind (EndOfMission position) = number.EndOfMission
kind InitiationOfSession = number.InitiationOfSession
kind TerminationOfSession = number.TerminationOfSession
kind (StartOfMission status position) = number.StartOfMission
kind SessionEstablished = number.SessionEstablished

pub number-again : (b : TrainBody) → train_of_number (train_number b) ≡ Ok (kind b)
unfolding train_of_number kind
number-again (TrainData position packet) = refl
number-again (Request reason position) = refl
number-again (Report position) = refl
number-again (ShorteningGranted request position) = refl
number-again (ShorteningRejected request position) = refl
number-again (EndOfMission position) = refl
number-again InitiationOfSession = refl
number-again TerminationOfSession = refl
number-again (StartOfMission status position) = refl
number-again SessionEstablished = refl

pub number-fits : (b : TrainBody) → train_number b < 2 ^ 8
number-fits (TrainData position packet) = omega arith
number-fits (Request reason position) = omega arith
number-fits (Report position) = omega arith
number-fits (ShorteningGranted request position) = omega arith
number-fits (ShorteningRejected request position) = omega arith
number-fits (EndOfMission position) = omega arith
number-fits InitiationOfSession = omega arith
number-fits TerminationOfSession = omega arith
number-fits (StartOfMission status position) = omega arith
number-fits SessionEstablished = omega arith

pub least : (b : TrainBody) (n : ℕ) → 74 + length (train_body_bits b) ≤ 8 * n → least_train_length (kind b) ≤ n
unfolding kind
least (TrainData position packet) n h = omega arith
least (Request reason position) n h = omega arith
least (Report position) n h = omega arith
least (ShorteningGranted request position) n h = omega (arith, length-joined ((32, request) ∷ position_packet position))
least (ShorteningRejected request position) n h =
    omega (arith, length-joined ((32, request) ∷ position_packet position))
least (EndOfMission position) n h = omega arith
least InitiationOfSession n h = omega arith
least TerminationOfSession n h = omega arith
least (StartOfMission status position) n h = omega arith
least SessionEstablished n h = omega arith

data-body-again : (p : Position) (d : Packet) (rest : List Bool) → TrainBodyFits (TrainData p d)
    → train_data_at (train_body_bits (TrainData p d) ++ rest) ≡ Ok (TrainData p d, rest)
unfolding train_data_at
data-body-again p d rest fits =
    rw (
      append_assoc (joined (position_packet p)) (packet_bits d) rest,
      position-again p (packet_bits d ++ rest) fits.0,
      data-again d rest fits.1 fits.2,
    ) refl

request-again : (reason : ℕ) (p : Position) (rest : List Bool) → TrainBodyFits (Request reason p)
    → request_at (train_body_bits (Request reason p) ++ rest) ≡ Ok (Request reason p, rest)
unfolding request_at
request-again reason p rest fits =
    rw (
      field-parts 5 reason (position_packet p) rest,
      field_at-field faults.Short 5 reason _ fits.0,
      position-again p rest fits.1,
    ) refl

answered-again : (request : ℕ) (p : Position) (rest : List Bool) → request < 2 ^ 32 → PositionFits p
    → answered_at (joined ((32, request) ∷ position_packet p) ++ rest) ≡ Ok ((request, p), rest)
unfolding answered_at
answered-again request p rest time fits =
    rw (
      field-parts 32 request (position_packet p) rest,
      field_at-field faults.Short 32 request _ time,
      position-again p rest fits,
    ) refl

pub body-again : (b : TrainBody) (rest : List Bool) → TrainBodyFits b
    → train_body_at (kind b) (train_body_bits b ++ rest) ≡ Ok (b, rest)
unfolding kind start_of_mission_at
body-again (TrainData position packet) rest fits = data-body-again position packet rest fits
body-again (Request reason position) rest fits = request-again reason position rest fits
body-again (Report position) rest fits = rw (position-again position rest fits) refl
body-again (ShorteningGranted request position) rest fits =
    rw (answered-again request position rest fits.0 fits.1) refl
body-again (ShorteningRejected request position) rest fits =
    rw (answered-again request position rest fits.0 fits.1) refl
body-again (EndOfMission position) rest fits = rw (position-again position rest fits) refl
body-again InitiationOfSession rest fits = refl
body-again TerminationOfSession rest fits = refl
body-again (StartOfMission status position) rest fits =
    rw (
      field-parts 2 (q_status_value status) (position_packet position) rest,
      field_at-field faults.Short 2 (q_status_value status) _ (q_status-fits status),
      q_status-again status,
      position-again position rest fits,
    ) refl
body-again SessionEstablished rest fits = refl

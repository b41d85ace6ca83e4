-- Each spelling is read: position reports, and the packets of a centre.
use Rattle.std.proofs.Common.{[], ◌++◌, ◌<◌, ◌∙◌, ◌≡◌, ◌≤◌, ap, arith, Bool, length, List, Ok, refl, sym}
use Rattle.std.proofs.lemmas.List.{append-nil}
use Rattle.rbc_bits.proofs.Fields.{field_at-field}
use Rattle.rbc_bits.specs.Bits.{field}
use Rattle.rbc_packets.proofs.Again.{direction_at-again, fixed_at-again, followed, followed-append, joined-followed}
use Rattle.rbc_packets.proofs.Again.{length-joined, m_level_at-again, none_left-again, q_length_at-again}
use Rattle.rbc_packets.proofs.Again.{q_scale_at-again, track_packet-parts, track_part_at-again, train_packet-parts}
use Rattle.rbc_packets.proofs.Again.{train_part_at-again, widths-append}
use Rattle.rbc_packets.specs.declared.authority.Authority.{Authority}
use Rattle.rbc_packets.specs.declared.fault.PacketFault.TheVariants.{Length}
use Rattle.rbc_packets.specs.declared.level.Level.{Level}
use Rattle.rbc_packets.specs.declared.level.Level.TheVariants as level
use Rattle.rbc_packets.specs.declared.location.Location.{Location}
use Rattle.rbc_packets.specs.declared.position.Position.{Position}
use Rattle.rbc_packets.specs.declared.session_order.SessionOrder.{SessionOrder}
use Rattle.rbc_packets.specs.declared.train_length.TrainLength.{TrainLength}
use Rattle.rbc_packets.specs.declared.train_length.TrainLength.TheVariants as train_length
use Rattle.rbc_packets.specs.declared.transition.Transition.{Transition}
use Rattle.rbc_packets.specs.Layout.{Field, joined, track_packet, train_packet, widths}
use Rattle.rbc_packets.specs.PositionReading.{level_at, location_at, position_at, position_fields_at, train_length_at}
use Rattle.rbc_packets.specs.PositionSpelling.{level_fields, LevelFits, location_fields, LocationFits, position_fields}
use Rattle.rbc_packets.specs.PositionSpelling.{PositionFits, running_fields, train_length_fields, TrainLengthFits}
use Rattle.rbc_packets.specs.TrackReading.{authority_at, authority_fields_at, no_more_at, radio_at, sections_at}
use Rattle.rbc_packets.specs.TrackReading.{session_order_at, session_order_fields_at, transition_at}
use Rattle.rbc_packets.specs.TrackReading.{transition_fields_at}
use Rattle.rbc_packets.specs.TrackSpelling.{authority_fields, AuthorityFits, no_radio, session_order_fields}
use Rattle.rbc_packets.specs.TrackSpelling.{SessionOrderFits, transition_fields, TransitionFits}
use Rattle.rbc_vars.specs.declared.length.QLength.TheVariants as q_length
use Rattle.rbc_vars.specs.declared.level.MLevel.TheVariants as m_level

-- # A spelled value is read: position reports.

location_at-again : (l : Location) (rest : List Bool) → LocationFits l
    → location_at (followed (location_fields l) rest) ≡ Ok (l, rest)
unfolding location_at
location_at-again l rest fits =
    rw (
      q_scale_at-again l.q_scale _,
      field_at-field Length 24 l.nid_lrbg _ fits.nid_lrbg,
      field_at-field Length 15 l.d_lrbg _ fits.d_lrbg,
      direction_at-again l.q_dirlrbg _,
      direction_at-again l.q_dlrbg _,
      field_at-field Length 15 l.l_doubtover _ fits.l_doubtover,
      field_at-field Length 15 l.l_doubtunder rest fits.l_doubtunder,
    ) refl

train_length_at-again : (l : TrainLength) (rest : List Bool) → TrainLengthFits l
    → train_length_at (followed (train_length_fields l) rest) ≡ Ok (l, rest)
unfolding train_length_at
train_length_at-again train_length.NoInformation rest fits = rw (q_length_at-again q_length.NoInformation rest) refl
train_length_at-again (train_length.ConfirmedByDevice l) rest fits =
    rw (q_length_at-again q_length.ConfirmedByDevice (field 15 l ++ rest), field_at-field Length 15 l rest fits) refl
train_length_at-again (train_length.ConfirmedByDriver l) rest fits =
    rw (q_length_at-again q_length.ConfirmedByDriver (field 15 l ++ rest), field_at-field Length 15 l rest fits) refl
train_length_at-again train_length.Lost rest fits = rw (q_length_at-again q_length.Lost rest) refl

level_at-again : (l : Level) (rest : List Bool) → LevelFits l → level_at (followed (level_fields l) rest) ≡ Ok (l, rest)
unfolding level_at
level_at-again level.Level0 rest fits = rw (m_level_at-again m_level.Level0 rest) refl
level_at-again (level.Ntc n) rest fits =
    rw (m_level_at-again m_level.Ntc (field 8 n ++ rest), field_at-field Length 8 n rest fits) refl
level_at-again level.Level1 rest fits = rw (m_level_at-again m_level.Level1 rest) refl
level_at-again level.Level2 rest fits = rw (m_level_at-again m_level.Level2 rest) refl
level_at-again level.Level3 rest fits = rw (m_level_at-again m_level.Level3 rest) refl
level_at-again level.Spare5 rest fits = rw (m_level_at-again m_level.Spare5 rest) refl
level_at-again level.Spare6 rest fits = rw (m_level_at-again m_level.Spare6 rest) refl
level_at-again level.Spare7 rest fits = rw (m_level_at-again m_level.Spare7 rest) refl

-- the fields one part after the other
parts : (p : Position) (rest : List Bool) → joined (position_fields p)
    ++ rest ≡ followed (location_fields p.location)
    (followed (train_length_fields p.train_length) (followed (running_fields p) (followed (level_fields p.level) rest)))
parts p rest =
    joined-followed (position_fields p) rest
    ∙ ap (followed (location_fields p.location))
    (followed-append (train_length_fields p.train_length) (running_fields p ++ level_fields p.level) rest)

position_fields_at-again : (p : Position) (rest : List Bool) → PositionFits p
    → position_fields_at (joined (position_fields p) ++ rest) ≡ Ok (p, rest)
unfolding position_fields_at
position_fields_at-again p rest fits =
    rw (
      parts p rest,
      location_at-again p.location _ fits.location,
      train_length_at-again p.train_length _ fits.train_length,
      field_at-field Length 7 p.v_train _ fits.running.0,
      direction_at-again p.q_dirtrain _,
      field_at-field Length 4 p.m_mode _ fits.running.1,
      level_at-again p.level rest fits.level,
    ) refl

length-width : (l : TrainLength) → widths (train_length_fields l) ≤ 17
length-width train_length.NoInformation = omega arith
length-width (train_length.ConfirmedByDevice l) = omega arith
length-width (train_length.ConfirmedByDriver l) = omega arith
length-width train_length.Lost = omega arith

level-width : (l : Level) → widths (level_fields l) ≤ 11
level-width level.Level0 = omega arith
level-width (level.Ntc n) = omega arith
level-width level.Level1 = omega arith
level-width level.Level2 = omega arith
level-width level.Level3 = omega arith
level-width level.Spare5 = omega arith
level-width level.Spare6 = omega arith
level-width level.Spare7 = omega arith

-- its fields have at most 116 bits
pub position-width : (p : Position) → widths (position_fields p) ≤ 116
position-width p =
    omega (
      arith,
      widths-append (train_length_fields p.train_length) (running_fields p ++ level_fields p.level),
      length-width p.train_length,
      level-width p.level,
    )

pub position_at-again : (p : Position) (rest : List Bool) → PositionFits p
    → position_at (joined (train_packet (position_fields p)) ++ rest) ≡ Ok (p, rest)
unfolding position_at
position_at-again p rest fits =
    let part = joined (position_fields p) in
    let few : length part < 8171 = omega (arith, length-joined (position_fields p), position-width p) in
    let whole : position_fields_at part ≡ Ok (p, []) = ap position_fields_at (sym (append-nil part))
    ∙ position_fields_at-again p [] fits in
    rw (train_packet-parts (position_fields p) rest, train_part_at-again part rest few, whole, none_left-again) refl

-- # A spelled value is read: the packets of a centre.

sections_at-again : (rest : List Bool)
    → sections_at (field 2 1 ++ (field 7 0 ++ (field 10 1023 ++ (field 5 0 ++ rest)))) ≡ Ok (tt, rest)
unfolding sections_at
sections_at-again rest =
    rw (
      fixed_at-again 2 1 _ (omega arith),
      fixed_at-again 7 0 _ (omega arith),
      fixed_at-again 10 1023 _ (omega arith),
      fixed_at-again 5 0 rest (omega arith),
    ) refl

no_more_at-again : (rest : List Bool) → no_more_at (field 1 0 ++ (field 1 0 ++ (field 1 0 ++ (field 1 0 ++ rest))))
    ≡ Ok (tt, rest)
unfolding no_more_at
no_more_at-again rest =
    rw (
      fixed_at-again 1 0 (field 1 0 ++ (field 1 0 ++ (field 1 0 ++ rest))) (omega arith),
      fixed_at-again 1 0 (field 1 0 ++ (field 1 0 ++ rest)) (omega arith),
      fixed_at-again 1 0 (field 1 0 ++ rest) (omega arith),
      fixed_at-again 1 0 rest (omega arith),
    ) refl

radio_at-again : (rest : List Bool) → radio_at (field 64 no_radio ++ (field 1 0 ++ rest)) ≡ Ok (tt, rest)
unfolding radio_at
radio_at-again rest =
    rw (fixed_at-again 64 no_radio (field 1 0 ++ rest) (omega arith), fixed_at-again 1 0 rest (omega arith)) refl

-- the fields of a packet, and nothing after them
whole : (fields : List Field) → joined fields ≡ followed fields []
whole fields = sym (append-nil (joined fields)) ∙ joined-followed fields []

few : (fields : List Field) → widths fields ≤ 200 → length (joined fields) < 8169
few fields le = omega (arith, length-joined fields)

authority_fields_at-again : (a : Authority) → AuthorityFits a
    → authority_fields_at (joined (authority_fields a)) ≡ Ok (a, [])
unfolding authority_fields_at
authority_fields_at-again a fits =
    rw (
      whole (authority_fields a),
      sections_at-again _,
      field_at-field Length 15 a.l_endsection _ fits,
      no_more_at-again [],
    ) refl

transition_fields_at-again : (t : Transition) → TransitionFits t
    → transition_fields_at (joined (transition_fields t)) ≡ Ok (t, [])
unfolding transition_fields_at
transition_fields_at-again t fits =
    rw (
      whole (transition_fields t),
      fixed_at-again 2 1 _ (omega arith),
      field_at-field Length 15 t.d_rbctr _ fits.0,
      field_at-field Length 10 t.nid_c _ fits.1,
      field_at-field Length 14 t.nid_rbc _ fits.2,
      radio_at-again [],
    ) refl

session_order_fields_at-again : (o : SessionOrder) → SessionOrderFits o
    → session_order_fields_at (joined (session_order_fields o)) ≡ Ok (o, [])
unfolding session_order_fields_at
session_order_fields_at-again o fits =
    rw (
      whole (session_order_fields o),
      fixed_at-again 1 0 _ (omega arith),
      field_at-field Length 10 o.nid_c _ fits.0,
      field_at-field Length 14 o.nid_rbc _ fits.1,
      radio_at-again [],
    ) refl

pub authority_at-again : (a : Authority) (rest : List Bool) → AuthorityFits a
    → authority_at (joined (track_packet (authority_fields a)) ++ rest) ≡ Ok (a, rest)
unfolding authority_at
authority_at-again a rest fits =
    let fields = authority_fields a in
    rw (
      track_packet-parts fields rest,
      track_part_at-again (joined fields) rest (few fields (omega arith)),
      authority_fields_at-again a fits,
      none_left-again,
    ) refl

pub transition_at-again : (t : Transition) (rest : List Bool) → TransitionFits t
    → transition_at (joined (track_packet (transition_fields t)) ++ rest) ≡ Ok (t, rest)
unfolding transition_at
transition_at-again t rest fits =
    let fields = transition_fields t in
    rw (
      track_packet-parts fields rest,
      track_part_at-again (joined fields) rest (few fields (omega arith)),
      transition_fields_at-again t fits,
      none_left-again,
    ) refl

pub session_order_at-again : (o : SessionOrder) (rest : List Bool) → SessionOrderFits o
    → session_order_at (joined (track_packet (session_order_fields o)) ++ rest) ≡ Ok (o, rest)
unfolding session_order_at
session_order_at-again o rest fits =
    let fields = session_order_fields o in
    rw (
      track_packet-parts fields rest,
      track_part_at-again (joined fields) rest (few fields (omega arith)),
      session_order_fields_at-again o fits,
      none_left-again,
    ) refl

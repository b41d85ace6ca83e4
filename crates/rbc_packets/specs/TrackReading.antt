-- The order in which the packets of a centre are tested (profile).
use Rattle.std.specs.Prelude.{Bool, List, Result, Ok}
use Rattle.rbc_bits.specs.Reading.{field_at}
use Rattle.rbc_packets.specs.Steps.{◌>>=◌}
use Rattle.rbc_packets.specs.Reading.{track_part_at, none_left, fixed_at}
use Rattle.rbc_packets.specs.TrackSpelling.{no_radio}
use Rattle.rbc_packets.specs.declared.fault.PacketFault.{PacketFault}
use Rattle.rbc_packets.specs.declared.fault.PacketFault.TheVariants.{Length}
use Rattle.rbc_packets.specs.declared.authority.Authority.{Authority}
use Rattle.rbc_packets.specs.declared.transition.Transition.{Transition}
use Rattle.rbc_packets.specs.declared.session_order.SessionOrder.{SessionOrder}

-- Q_SCALE, END_SPEED, END_TIME, N_ITER
unfoldable pub sections_at : List Bool → Result (Unit {0} × List Bool) PacketFault
sections_at bits = do
  q_scale ← fixed_at 2 1 bits
  end_speed ← fixed_at 7 0 q_scale.1
  end_time ← fixed_at 10 1023 end_speed.1
  fixed_at 5 0 end_time.1

-- Q_SECTIONTIMER, Q_ENDTIMER, Q_DANGERPOINT, Q_OVERLAP
unfoldable pub no_more_at : List Bool → Result (Unit {0} × List Bool) PacketFault
no_more_at bits = do
  q_sectiontimer ← fixed_at 1 0 bits
  q_endtimer ← fixed_at 1 0 q_sectiontimer.1
  q_dangerpoint ← fixed_at 1 0 q_endtimer.1
  fixed_at 1 0 q_dangerpoint.1

unfoldable pub authority_fields_at : List Bool → Result (Authority × List Bool) PacketFault
authority_fields_at bits = do
  sections ← sections_at bits
  l_endsection ← field_at Length 15 sections.1
  others ← no_more_at l_endsection.1
  Ok (record { l_endsection = l_endsection.0 }, others.1)

-- packet 15 after NID_PACKET, and the bits after it
unfoldable pub authority_at : List Bool → Result (Authority × List Bool) PacketFault
authority_at bits = do
  part ← track_part_at bits
  authority ← authority_fields_at part.0
  _ ← none_left authority.1
  Ok (authority.0, part.1)

-- NID_RADIO, Q_SLEEPSESSION
unfoldable pub radio_at : List Bool → Result (Unit {0} × List Bool) PacketFault
radio_at bits = do
  nid_radio ← fixed_at 64 no_radio bits
  fixed_at 1 0 nid_radio.1

unfoldable pub transition_fields_at : List Bool → Result (Transition × List Bool) PacketFault
transition_fields_at bits = do
  q_scale ← fixed_at 2 1 bits
  d_rbctr ← field_at Length 15 q_scale.1
  nid_c ← field_at Length 10 d_rbctr.1
  nid_rbc ← field_at Length 14 nid_c.1
  radio ← radio_at nid_rbc.1
  Ok (record { d_rbctr = d_rbctr.0; nid_c = nid_c.0; nid_rbc = nid_rbc.0 }, radio.1)

-- packet 131 after NID_PACKET, and the bits after it
unfoldable pub transition_at : List Bool → Result (Transition × List Bool) PacketFault
transition_at bits = do
  part ← track_part_at bits
  transition ← transition_fields_at part.0
  _ ← none_left transition.1
  Ok (transition.0, part.1)

unfoldable pub session_order_fields_at : List Bool → Result (SessionOrder × List Bool) PacketFault
session_order_fields_at bits = do
  q_rbc ← fixed_at 1 0 bits
  nid_c ← field_at Length 10 q_rbc.1
  nid_rbc ← field_at Length 14 nid_c.1
  radio ← radio_at nid_rbc.1
  Ok (record { nid_c = nid_c.0; nid_rbc = nid_rbc.0 }, radio.1)

-- packet 42 after NID_PACKET, and the bits after it
unfoldable pub session_order_at : List Bool → Result (SessionOrder × List Bool) PacketFault
session_order_at bits = do
  part ← track_part_at bits
  order ← session_order_fields_at part.0
  _ ← none_left order.1
  Ok (order.0, part.1)

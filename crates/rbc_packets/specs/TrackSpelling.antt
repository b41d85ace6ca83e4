-- How the packets of a centre are spelled (profile: fields and lengths are this project's own).
use Rattle.std.specs.Prelude.{ℕ, ◌^◌, ◌<◌, List, [], ◌∷◌}
use Rattle.rbc_packets.specs.Layout.{Field}
use Rattle.rbc_packets.specs.declared.authority.Authority.{Authority}
use Rattle.rbc_packets.specs.declared.transition.Transition.{Transition}
use Rattle.rbc_packets.specs.declared.session_order.SessionOrder.{SessionOrder}

-- packet 15: Q_SCALE (1), END_SPEED (0), END_TIME (1 023), N_ITER (0), L_ENDSECTION, Q_SECTIONTIMER, Q_ENDTIMER,
-- Q_DANGERPOINT and Q_OVERLAP (0)
abbrev pub authority_fields : Authority → List Field
authority_fields a =
    (2, 1) ∷ (7, 0) ∷ (10, 1023) ∷ (5, 0) ∷ (15, a.l_endsection) ∷ (1, 0) ∷ (1, 0) ∷ (1, 0) ∷ (1, 0) ∷ []

-- NID_RADIO, which is all ones: no number is given
abbrev pub no_radio : ℕ
no_radio = 18446744073709551615

-- packet 131: Q_SCALE (1), D_RBCTR, NID_C, NID_RBC, NID_RADIO (all ones), Q_SLEEPSESSION (0)
abbrev pub transition_fields : Transition → List Field
transition_fields t = (2, 1) ∷ (15, t.d_rbctr) ∷ (10, t.nid_c) ∷ (14, t.nid_rbc) ∷ (64, no_radio) ∷ (1, 0) ∷ []

-- packet 42: Q_RBC (0, terminate), NID_C, NID_RBC, NID_RADIO (all ones), Q_SLEEPSESSION (0)
abbrev pub session_order_fields : SessionOrder → List Field
session_order_fields o = (1, 0) ∷ (10, o.nid_c) ∷ (14, o.nid_rbc) ∷ (64, no_radio) ∷ (1, 0) ∷ []

-- each value has room in its field
abbrev pub AuthorityFits : Authority → Type 0
AuthorityFits a = a.l_endsection < 2 ^ 15

abbrev pub TransitionFits : Transition → Type 0
TransitionFits t = (t.d_rbctr < 2 ^ 15) × (t.nid_c < 2 ^ 10) × (t.nid_rbc < 2 ^ 14)

abbrev pub SessionOrderFits : SessionOrder → Type 0
SessionOrderFits o = (o.nid_c < 2 ^ 10) × (o.nid_rbc < 2 ^ 14)

-- The fields of a good message are laid out by the tables, and their bits are those of the message.
use Rattle.std.proofs.Common.{[], ◌++◌, ◌+◌, ◌<◌, ◌^◌, ◌∙◌, ◌∷◌, ◌≡◌, ap, append-nil, append_assoc, arith, Bool, inr}
use Rattle.std.proofs.Common.{length, List, refl, subst, sym, ℕ}
use Rattle.std.specs.List.{AllByRecursion, flat_map}
use Rattle.std.specs.Prelude.{map, MatchOption}
use Rattle.rbc_bits.specs.Bits.{bits_of, filled, filling}
use Rattle.rbc_msgs.specs.declared.train_body.TrainBody.{TrainBody}
use Rattle.rbc_msgs.specs.declared.train_body.TrainBody.TheVariants as train
use Rattle.rbc_msgs.specs.TrainSpelling.{IsFurther, packet_bits, position_packet, SpellsTrain, train_bits}
use Rattle.rbc_msgs.specs.TrainSpelling.{train_body_bits, train_header, train_number, TrainBodyFits, TrainFits}
use Rattle.rbc_msgs.specs.TrainText.{TrainText}
use Rattle.rbc_packets.proofs.Again.{joined-append, joined-nil}
use Rattle.rbc_packets.specs.declared.position.Position.{Position}
use Rattle.rbc_packets.specs.Layout.{Field, joined, widths}
use Rattle.rbc_packets.specs.Packet.{Packet, PacketFits}
use Rattle.rbc_packets.specs.PositionSpelling.{PositionFits}
use Rattle.rbc_vars.proofs.Values.{q_status-fits}
use Rattle.rbc_vars.specs.Values.{q_status_value}
use Rattle.text_fields.proofs.Filling.{all_bits-filled, few, filling-fit}
use Rattle.text_fields.proofs.Kept.{further-bits, further-laid, kept_fields-bits, kept_fields-fit, shown-both}
use Rattle.text_fields.proofs.Report.{of_report, report-fields, report-fit, report_is_laid}
use Rattle.text_fields.proofs.Steps.{both_fit}
use Rattle.text_fields.specs.declared.bodies.TheConstants as tables
use Rattle.text_fields.specs.declared.messages.Side.{Side}
use Rattle.text_fields.specs.declared.messages.Side.TheVariants.{Train}
use Rattle.text_fields.specs.declared.shown.Shown.{Shown}
use Rattle.text_fields.specs.Messages.{filling_fields, kept, kept_content, numbered, packet_shown, PacketFields}
use Rattle.text_fields.specs.Messages.{packets_shown, position_content, train_after, train_head, train_own}
use Rattle.text_fields.specs.Messages.{train_packets, train_shown}
use Rattle.text_fields.specs.Named.{fields_in, Named, NamedFits}
use Rattle.text_fields.specs.Walks.{body_at, count_of, IsHead, IsLaid, IsLaidMessage, IsLaidPacket, IsOwn, Next}
use Rattle.text_fields.specs.Walks.{rest_shown, side_of}

-- ## Messages of trains

train_side : (b : TrainBody) → side_of (train_number b) ≡ Train
train_side (train.TrainData p q) = refl
train_side (train.Request r p) = refl
train_side (train.Report p) = refl
train_side (train.ShorteningGranted r p) = refl
train_side (train.ShorteningRejected r p) = refl
train_side (train.EndOfMission p) = refl
train_side train.InitiationOfSession = refl
train_side train.TerminationOfSession = refl
train_side (train.StartOfMission s p) = refl
train_side train.SessionEstablished = refl

train_small : (b : TrainBody) → train_number b < 2 ^ 8
train_small (train.TrainData p q) = omega arith
train_small (train.Request r p) = omega arith
train_small (train.Report p) = omega arith
train_small (train.ShorteningGranted r p) = omega arith
train_small (train.ShorteningRejected r p) = omega arith
train_small (train.EndOfMission p) = omega arith
train_small train.InitiationOfSession = omega arith
train_small train.TerminationOfSession = omega arith
train_small (train.StartOfMission s p) = omega arith
train_small train.SessionEstablished = omega arith

train_body_laid : (b : TrainBody) → MatchOption (body_at (train_number b) tables.BODIES.now) ⊥
    (λ body. IsOwn body.own (train_own b) × (length (train_packets b) ≡ count_of body.packets))
train_body_laid (train.TrainData p q) = (refl, refl)
train_body_laid (train.Request r p) = ((r, refl), refl)
train_body_laid (train.Report p) = (refl, refl)
train_body_laid (train.ShorteningGranted r p) = ((r, refl), refl)
train_body_laid (train.ShorteningRejected r p) = ((r, refl), refl)
train_body_laid (train.EndOfMission p) = (refl, refl)
train_body_laid train.InitiationOfSession = (refl, refl)
train_body_laid train.TerminationOfSession = (refl, refl)
train_body_laid (train.StartOfMission s p) = ((q_status_value s, refl), refl)
train_body_laid train.SessionEstablished = (refl, refl)

data_is_kept : (q : Packet) → q.nid_packet ≡ 11 → IsLaid Train q.nid_packet (kept_content q.bits)
data_is_kept q e = inr (refl, (λ zero. absurd (omega (arith, zero, e))), q.bits, refl)

train_packets_laid : (b : TrainBody) → TrainBodyFits b → AllByRecursion (IsLaidPacket Train) (train_packets b)
train_packets_laid (train.TrainData p q) f = (report_is_laid p, (data_is_kept q f.1, tt))
train_packets_laid (train.Request r p) f = (report_is_laid p, tt)
train_packets_laid (train.Report p) f = (report_is_laid p, tt)
train_packets_laid (train.ShorteningGranted r p) f = (report_is_laid p, tt)
train_packets_laid (train.ShorteningRejected r p) f = (report_is_laid p, tt)
train_packets_laid (train.EndOfMission p) f = (report_is_laid p, tt)
train_packets_laid train.InitiationOfSession f = tt
train_packets_laid train.TerminationOfSession f = tt
train_packets_laid (train.StartOfMission s p) f = (report_is_laid p, tt)
train_packets_laid train.SessionEstablished f = tt

-- the fields after the header but those of further packets
abbrev pub train_rest : TrainBody → List Named
train_rest b = train_own b ++ packets_shown Train (train_packets b)

-- a position report, and the packet of train data
data-bits : (p : Position) (q : Packet) → joined (fields_in (packets_shown Train (of_report p ∷ kept q ∷ [])))
    ≡ joined (position_packet p) ++ packet_bits q
data-bits p q =
    let report = packet_shown Train 0 (position_content p) in
    let content = packet_shown Train q.nid_packet (kept_content q.bits) in
    shown-both report (content ++ [])
    ∙ (ap (λ (fields : List Named). joined (fields_in report) ++ joined (fields_in fields)) (append-nil content)
    ∙ (ap (λ (bits : List Bool). joined (fields_in report) ++ bits) (kept_fields-bits q)
    ∙ (ap (λ (fields : List Named). joined (fields_in fields) ++ packet_bits q) (sym (append-nil report))
    ∙ ap (λ (fields : List Field). joined fields ++ packet_bits q) (report-fields p))))

data-fit : (p : Position) (q : Packet) → PositionFits p → PacketFits q
    → AllByRecursion NamedFits (packets_shown Train (of_report p ∷ kept q ∷ []))
data-fit p q h f =
    let report = packet_shown Train 0 (position_content p) in
    let content = packet_shown Train q.nid_packet (kept_content q.bits) in
    both_fit report (content ++ [])
    (subst (λ (fields : List Named). AllByRecursion NamedFits fields) (append-nil report) (report-fit p h))
    (both_fit content [] (kept_fields-fit q f) tt)

train_rest-bits : (b : TrainBody) → joined (fields_in (train_rest b)) ≡ train_body_bits b
train_rest-bits (train.TrainData p q) = data-bits p q
train_rest-bits (train.Request r p) = ap (λ (list : List Field). joined ((5, r) ∷ list)) (report-fields p)
train_rest-bits (train.Report p) = ap joined (report-fields p)
train_rest-bits (train.ShorteningGranted r p) = ap (λ (list : List Field). joined ((32, r) ∷ list)) (report-fields p)
train_rest-bits (train.ShorteningRejected r p) = ap (λ (list : List Field). joined ((32, r) ∷ list)) (report-fields p)
train_rest-bits (train.EndOfMission p) = ap joined (report-fields p)
train_rest-bits train.InitiationOfSession = joined-nil
train_rest-bits train.TerminationOfSession = joined-nil
train_rest-bits (train.StartOfMission s p) = ap (λ (list : List Field). joined ((
  2,
  q_status_value s,
) ∷ list)) (report-fields p)
train_rest-bits train.SessionEstablished = joined-nil

train_rest-fit : (b : TrainBody) → TrainBodyFits b → AllByRecursion NamedFits (train_rest b)
train_rest-fit (train.TrainData p q) f = data-fit p q f.0 f.2
train_rest-fit (train.Request r p) f = ((omega arith, f.0), report-fit p f.1)
train_rest-fit (train.Report p) f = report-fit p f
train_rest-fit (train.ShorteningGranted r p) f = ((omega arith, f.0), report-fit p f.1)
train_rest-fit (train.ShorteningRejected r p) f = ((omega arith, f.0), report-fit p f.1)
train_rest-fit (train.EndOfMission p) f = report-fit p f
train_rest-fit train.InitiationOfSession f = tt
train_rest-fit train.TerminationOfSession f = tt
train_rest-fit (train.StartOfMission s p) f = ((omega arith, q_status-fits s), report-fit p f)
train_rest-fit train.SessionEstablished f = tt

-- ---- further packets

further-fit : (packets : List Packet) → AllByRecursion IsFurther packets
    → AllByRecursion NamedFits (packets_shown Train (map kept packets))
further-fit [] h = tt
further-fit (p ∷ packets) h =
    both_fit (packet_shown Train p.nid_packet (kept_content p.bits)) (packets_shown Train (map kept packets))
    (kept_fields-fit p h.0.1) (further-fit packets h.1)

abbrev pub further_of : TrainText → List PacketFields
further_of m = map kept m.further

after-is : (m : TrainText) → train_after m ≡ train_rest m.body ++ packets_shown Train (further_of m)
after-is m =
    sym (append_assoc (train_own m.body) (packets_shown Train (train_packets m.body))
    (packets_shown Train (further_of m)))

after-bits : (m : TrainText)
    → joined (fields_in (train_after m)) ≡ train_body_bits m.body ++ flat_map packet_bits m.further
after-bits m =
    ap (λ (fields : List Named). joined (fields_in fields)) (after-is m)
    ∙ (shown-both (train_rest m.body) (packets_shown Train (further_of m))
    ∙ (ap (λ (bits : List Bool). bits ++ joined (fields_in (packets_shown Train (further_of m))))
    (train_rest-bits m.body)
    ∙ ap (λ (bits : List Bool). train_body_bits m.body ++ bits) (further-bits m.further)))

after-fit : (m : TrainText) → TrainFits m → AllByRecursion NamedFits (train_after m)
after-fit m f =
    subst (λ (fields : List Named). AllByRecursion NamedFits fields) (sym (after-is m))
    (both_fit (train_rest m.body) (packets_shown Train (further_of m)) (train_rest-fit m.body f.body)
    (further-fit m.further f.further))

abbrev pub head_of : ℕ → TrainText → List Named
head_of l m = train_head l m.t_train m.nid_engine

pub train_laid : (l : ℕ) (m : TrainText) → TrainFits m
    → IsLaidMessage (train_number m.body) (head_of l m) (train_own m.body) (train_packets m.body) (further_of m)
train_laid l m f =
    record {
      number = train_small m.body;
      head_is = subst (λ (side : Side). IsHead side (head_of l m)) (sym (train_side m.body)) (
        l,
        m.t_train,
        m.nid_engine,
        refl,
      );
      body = train_body_laid m.body;
      packets_are = subst (λ (side : Side). AllByRecursion (IsLaidPacket side) (train_packets m.body))
          (sym (train_side m.body)) (train_packets_laid m.body f.body);
      further_are = subst (λ (side : Side). AllByRecursion (IsLaidPacket side) (further_of m))
          (sym (train_side m.body)) (further-laid m.further f.further);
    }

-- all fields but the filling
abbrev pub train_all : ℕ → TrainText → List Named
train_all l m = numbered (train_number m.body) (head_of l m) ++ train_after m

train_all-bits : (l : ℕ) (m : TrainText) → train_bits l m ≡ joined (fields_in (train_all l m))
unfolding train_bits
train_all-bits l m =
    ap (λ bits. joined (train_header l m) ++ bits) (sym (after-bits m))
    ∙ sym (joined-append (train_header l m) (fields_in (train_after m)))

pub train_next : (bytes : List ℕ) (m : TrainText) → SpellsTrain bytes m
    → (look : List Shown × List Bool) → look ≡ ([], bits_of bytes)
    → Next (train_shown (length bytes) m) [] look 0
train_next bytes m s look e =
    record {
      bits = ap (λ p. p.1) e ∙ (s.text ∙ (ap filled (train_all-bits (length bytes) m)
          ∙ all_bits-filled (train_all (length bytes) m)));
      fit = both_fit (train_all (length bytes) m) (filling_fields
          (filling (widths (fields_in (train_all (length bytes) m))))) (
            (omega arith, train_small m.body),
            (
              (omega arith, s.l_message),
              (
                (omega arith, omega (arith, s.fits.t_train)),
                (
                  (omega arith, s.fits.nid_engine),
                  after-fit m s.fits,
                ),
              ),
            ),
          )
          (filling-fit (filling (widths (fields_in (train_all (length bytes) m))))
          (few (widths (fields_in (train_all (length bytes) m)))));
      within = omega arith;
    }

-- its fields, in the order of the steps of the walk
pub train_steps : (l : ℕ) (m : TrainText) → train_shown l m
    ≡ numbered (train_number m.body) (head_of l m)
    ++ (train_own m.body ++ (packets_shown (side_of (train_number m.body)) (train_packets m.body)
    ++ rest_shown (side_of (train_number m.body)) (further_of m) (filling (widths (fields_in (train_all l m))))))
train_steps l m =
    let n = filling (widths (fields_in (train_all l m))) in
    let fill = filling_fields n in
    let head = numbered (train_number m.body) (head_of l m) in
    let packets = packets_shown Train (train_packets m.body) in
    let further = packets_shown Train (further_of m) in
    append_assoc head (train_after m) fill
    ∙ (ap (λ fields. head ++ fields) (append_assoc (train_own m.body) (packets ++ further) fill
    ∙ ap (λ fields. train_own m.body ++ fields) (append_assoc packets further fill))
    ∙ ap (λ (side : Side). head ++ (train_own m.body ++ (packets_shown side (train_packets m.body)
    ++ rest_shown side (further_of m) n)))
    (sym (train_side m.body)))

pub train_fill : (l : ℕ) (m : TrainText) → filling (widths (fields_in (train_all l m))) < 8
train_fill l m = few (widths (fields_in (train_all l m)))

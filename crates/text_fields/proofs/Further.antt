-- A walk over further packets.
use Rattle.std.proofs.Common.{[], ◌++◌, ◌+◌, ◌-◌, ◌<◌, ◌∙◌, ◌∷◌, ◌≡◌, ◌≤◌, ap, append-nil, append_assoc, arith, Bool}
use Rattle.std.proofs.Common.{length, List, refl, sym, true, ℕ}
use Rattle.std.specs.List.{AllByRecursion}
use Rattle.rbc_packets.proofs.Again.{joined-nil}
use Rattle.text_fields.proofs.Packet.{has_number, long, long_after}
use Rattle.text_fields.proofs.Steps.{first, second}
use Rattle.text_fields.specs.declared.messages.Side.{Side}
use Rattle.text_fields.specs.declared.shown.Shown.{Shown}
use Rattle.text_fields.specs.Messages.{packet_shown, PacketFields, packets_shown}
use Rattle.text_fields.specs.Named.{all_named, Named}
use Rattle.text_fields.specs.Walks.{after, IsLaid, IsLaidPacket, Next, Shows, Takes}

-- of these packets those ahead are not shown yet
pub record Passed (side : Side) (packets : List PacketFields) (rest : List Bool) (began look : List Shown × List Bool)
    (end_then end count : ℕ) : Type 0 where
  pub ahead : List PacketFields
  pub laid : AllByRecursion (IsLaidPacket side) ahead
  pub next : Next (packets_shown side ahead) rest look end
  pub shown : all_named look.0 ++ packets_shown side ahead ≡ all_named began.0 ++ packets_shown side packets
  pub end_is : end ≡ end_then
  pub few : count + length look.1 ≤ length began.1

pub none_passed : (side : Side) (packets : List PacketFields) (rest : List Bool) (look : List Shown × List Bool)
    (end : ℕ) → AllByRecursion (IsLaidPacket side) packets → Next (packets_shown side packets) rest look end
    → Passed side packets rest look look end end 0
none_passed side packets rest look end laid n =
    record { ahead = packets; laid = laid; next = n; shown = refl; end_is = refl; few = omega arith }

passes : (side : Side) (packets ahead : List PacketFields) (rest : List Bool) (began look new : List Shown
    × List Bool) (end_then end new_end count : ℕ) → AllByRecursion (IsLaidPacket side) ahead
    → Next (packets_shown side ahead) rest look end
    → all_named look.0 ++ packets_shown side ahead ≡ all_named began.0 ++ packets_shown side packets
    → end ≡ end_then → count + length look.1 ≤ length began.1
    → 8 ≤ length look.1 - end → length rest < 8 → end ≡ 0
    → ((n : ℕ) (content : List Named) → IsLaid side n content
    → Takes (packet_shown side n content) look end new new_end true)
    → Passed side packets rest began new end_then new_end (count + 1)
passes side packets [] rest began look new end_then end new_end count laid n shown e few more less zero take =
    absurd (omega (arith, long [] rest look end n, more, less))
passes side packets (p ∷ ahead) rest began look new end_then end new_end count laid n shown e few more less zero take =
    let one = packet_shown side p.number p.content in
    let others = packets_shown side ahead in
    let s = take p.number p.content laid.0 (after others rest) (first one others rest look end n) in
    record {
      ahead = ahead;
      laid = laid.1;
      next = second one others rest look new end new_end n s.1 (omega (arith, s.2, n.within));
      shown = ap (λ list. list ++ others) s.1.shown ∙ (append_assoc (all_named look.0) one others ∙ shown);
      end_is = s.2 ∙ e;
      few = omega (
        arith,
        few,
        ap length s.1.left,
        long one (after others rest) look end (first one others rest look end n),
      );
    }

-- the next packet is shown
pub one_passed : (side : Side) (packets : List PacketFields) (rest : List Bool) (began look new : List Shown
    × List Bool) (end_then end new_end count : ℕ) → Passed side packets rest began look end_then end count
    → 8 ≤ length look.1 - end → length rest < 8 → end_then ≡ 0
    → ((n : ℕ) (content : List Named) → IsLaid side n content → end ≡ 0
    → Takes (packet_shown side n content) look end new new_end true)
    → Passed side packets rest began new end_then new_end (count + 1)
one_passed side packets rest began look new end_then end new_end count p more less e take =
    passes side packets p.ahead rest began look new end_then end new_end count p.laid p.next p.shown p.end_is p.few
    more less (p.end_is ∙ e) (λ n content laid. take n content laid (p.end_is ∙ e))

no_more : (side : Side) (packets ahead : List PacketFields) (rest : List Bool) (began look : List Shown
    × List Bool) (end : ℕ) → Next (packets_shown side ahead) rest look end
    → all_named look.0 ++ packets_shown side ahead ≡ all_named began.0 ++ packets_shown side packets
    → length look.1 - end < 8 → Shows (packets_shown side packets) rest began look
no_more side packets [] rest began look end n shown h =
    record {
      shown = sym (append-nil (all_named look.0)) ∙ shown;
      left = n.bits ∙ ap (λ bits. bits ++ rest) joined-nil;
    }
no_more side packets (p ∷ ahead) rest began look end n shown h =
    let one = packet_shown side p.number p.content in
    absurd (omega (
      arith,
      has_number side p.number p.content (after (packets_shown side ahead) rest) look end
          (first one (packets_shown side ahead) rest look end n),
      h,
    ))

-- if fewer than 8 bits are left, all packets are shown
pub all_passed : (side : Side) (packets : List PacketFields) (rest : List Bool) (began look : List Shown
    × List Bool) (end_then end count : ℕ) → Passed side packets rest began look end_then end count
    → length look.1 - end < 8 → Shows (packets_shown side packets) rest began look × (end ≡ end_then)
all_passed side packets rest began look end_then end count p h = (
  no_more side packets p.ahead rest began look end p.next p.shown h,
  p.end_is,
)

-- The bits of a body with a usual position report.
use Rattle.std.proofs.Common.{◌++◌, ◌+◌, ◌∙◌, ◌∷◌, ◌≡◌, ap, append_assoc, Bool, length, List, sym, ℕ}
use Rattle.rbc_bits.specs.Bits.{field}
use Rattle.rbc_msgs.proofs.TrainParts.{field-parts}
use Rattle.rbc_msgs.specs.TrainSpelling.{packet_bits, position_packet}
use Rattle.rbc_packets.proofs.Again.{train_found}
use Rattle.rbc_packets.specs.declared.position.Position.{Position}
use Rattle.rbc_packets.specs.Layout.{joined, train_packet}
use Rattle.rbc_packets.specs.Packet.{Packet}
use Rattle.rbc_packets.specs.PositionSpelling.{position_fields}

-- NID_PACKET, L_PACKET, and 108 bits of fields
pub position-spelled : (old part new : List Bool) (p : Position) → old ≡ field 8 0 ++ (field 13 129 ++ (part ++ new))
    → length part ≡ 108 → part ≡ joined (position_fields p)
    → old ≡ joined (position_packet p) ++ new
position-spelled old part new p header len whole =
    let inner : field 13 129 ++ (part ++ new) ≡ joined (train_packet (position_fields p)) ++ new =
    train_found (field 13 129 ++ (part ++ new)) part new (position_fields p)
    (ap (λ n. field 13 (21 + n) ++ (part ++ new)) (sym len)) whole in
    header ∙ ap (λ t. field 8 0 ++ t) inner ∙ sym (field-parts 8 0 (train_packet (position_fields p)) new)

-- a field before it
pub field-spelled : (old mid new : List Bool) (n v : ℕ) (p : Position) → old ≡ field n v ++ mid
    → mid ≡ joined (position_packet p) ++ new → old ≡ joined ((n, v) ∷ position_packet p) ++ new
field-spelled old mid new n v p first second =
    first ∙ ap (λ t. field n v ++ t) second ∙ sym (field-parts n v (position_packet p) new)

-- a packet after it
pub packet-spelled : (old mid new : List Bool) (p : Position) (k : Packet) → old ≡ joined (position_packet p) ++ mid
    → mid ≡ packet_bits k ++ new
    → old ≡ (joined (position_packet p) ++ packet_bits k) ++ new
packet-spelled old mid new p k first second =
    first ∙ ap (λ t. joined (position_packet p) ++ t) second
    ∙ sym (append_assoc (joined (position_packet p)) (packet_bits k) new)

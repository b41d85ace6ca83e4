-- Packets that have to be there.
use Rattle.std.proofs.Common.{◌≡◌, ◌∙◌, sym, subst, ℕ, Bool, true, List, [], ◌∷◌, ◌++◌, length, append-nil}
use Rattle.std.proofs.Common.{arith}
use Rattle.std.specs.List.{AllByRecursion}
use Rattle.text_fields.specs.Named.{Named}
use Rattle.text_fields.specs.Messages.{PacketFields, packet_shown, packets_shown}
use Rattle.text_fields.specs.Walks.{Next, Takes, IsLaid, IsLaidPacket}
use Rattle.text_fields.specs.declared.messages.Side.{Side}
use Rattle.text_fields.specs.declared.shown.Shown.{Shown}
use Rattle.text_fields.proofs.Steps.{first, none, takes_both}

pub no_packet : (side : Side) (packets : List PacketFields) (look : List Shown × List Bool) (end : ℕ)
    → length packets ≡ 0
    → Takes (packets_shown side packets) look end look end true
no_packet side [] look end h = none look end
no_packet side (p ∷ packets) look end h = absurd (omega (arith, h))

pub one_packet : (side : Side) (packets : List PacketFields) (x y : List Shown × List Bool) (end mid : ℕ)
    → length packets ≡ 1
    → AllByRecursion (IsLaidPacket side) packets
    → ((n : ℕ) (content : List Named) → IsLaid side n content → Takes (packet_shown side n content) x end y mid true)
    → Takes (packets_shown side packets) x end y mid true
one_packet side [] x y end mid h laid take = absurd (omega (arith, h))
one_packet side (p ∷ []) x y end mid h laid take =
    subst (λ (fields : List Named). Takes fields x end y mid true)
    (sym (append-nil (packet_shown side p.number p.content))) (take p.number p.content laid.0)
one_packet side (p ∷ q ∷ packets) x y end mid h laid take = absurd (omega (arith, h))

second_end : (side : Side) (p q : PacketFields) (x y : List Shown × List Bool) (end mid : ℕ) (rest : List Bool)
    → ((n : ℕ) (content : List Named) → IsLaid side n content → Takes (packet_shown side n content) x end y mid true)
    → IsLaid side p.number p.content → end ≡ 0 → Next (packets_shown side (p ∷ q ∷ [])) rest x end → mid ≡ 0
second_end side p q x y end mid rest take laid e n =
    (take p.number p.content laid _ (first (packet_shown side p.number p.content)
    (packet_shown side q.number q.content ++ []) rest x end n)).2 ∙ e

pub two_packets : (side : Side) (packets : List PacketFields) (x y z : List Shown × List Bool) (end mid last : ℕ)
    → length packets ≡ 2
    → AllByRecursion (IsLaidPacket side) packets → end ≡ 0
    → ((n : ℕ) (content : List Named) → IsLaid side n content → Takes (packet_shown side n content) x end y mid true)
    → ((n : ℕ) (content : List Named) → IsLaid side n content → mid ≡ 0
    → Takes (packet_shown side n content) y mid z last true)
    → Takes (packets_shown side packets) x end z last true
two_packets side [] x y z end mid last h laid e take more = absurd (omega (arith, h))
two_packets side (p ∷ []) x y z end mid last h laid e take more = absurd (omega (arith, h))
two_packets side (p ∷ q ∷ []) x y z end mid last h laid e take more = λ rest n.
    let m = second_end side p q x y end mid rest take laid.0 e n in
    takes_both (packet_shown side p.number p.content) (packet_shown side q.number q.content ++ []) x y z end mid last
    true
    (take p.number p.content laid.0)
    (subst (λ (fields : List Named). Takes fields y mid z last true)
    (sym (append-nil (packet_shown side q.number q.content))) (more q.number q.content laid.1.0 m)) rest n
two_packets side (p ∷ q ∷ r ∷ packets) x y z end mid last h laid e take more = absurd (omega (arith, h))

-- Packets that a decoder keeps as bits: their bits, and the fields that show them.
use Rattle.std.proofs.Common.{[], ◌*◌, ◌++◌, ◌+◌, ◌/◌, ◌<◌, ◌^◌, ◌∙◌, ◌∷◌, ◌≡◌, ◌≤◌, ◌⊎◌, ap, append-nil, append_assoc}
use Rattle.std.proofs.Common.{arith, Bool, drop, inl, inr, length, length-append, List, refl, subst, suc, sym, take}
use Rattle.std.proofs.Common.{true, zero, ℕ}
use Rattle.std.proofs.lemmas.Bool.{cases_lt}
use Rattle.std.proofs.lemmas.List.{drop_all, length-drop, length-take, length-take-le, map-append, take-append-drop}
use Rattle.std.proofs.lemmas.List.{take_all}
use Rattle.std.specs.List.{AllByRecursion, flat_map}
use Rattle.std.specs.Prelude.{codes, map}
use Rattle.rbc_bits.proofs.Fields.{field-value_of, value_of-fits}
use Rattle.rbc_bits.specs.Bits.{field, value_of}
use Rattle.rbc_msgs.specs.TrainSpelling.{IsFurther, packet_bits}
use Rattle.rbc_packets.proofs.Again.{joined-append, joined-cons, joined-nil, length-joined}
use Rattle.rbc_packets.specs.Layout.{Field, joined, widths}
use Rattle.rbc_packets.specs.OpaqueReading.{opaque_bits}
use Rattle.rbc_packets.specs.Packet.{Packet, PacketFits}
use Rattle.text_fields.specs.declared.messages.Side.TheVariants.{Train}
use Rattle.text_fields.specs.declared.shown.Shown.{Shown}
use Rattle.text_fields.specs.Messages.{bits_field, bits_fields, kept, kept_content, packet_shown, packets_shown}
use Rattle.text_fields.specs.Named.{all_named, fields_in, Named, NamedFits}
use Rattle.text_fields.specs.Walks.{IsLaid, IsLaidPacket, Shows, Takes}

-- ## The fields of bits

kept-rows : (bits : List Bool) → kept_content bits ≡ bits_fields (length bits / 64) bits
unfolding kept_content
kept-rows bits = refl

-- a field shows the bits
one-bits : (bits : List Bool) (fields : List Field)
    → joined ((length bits, value_of bits) ∷ fields) ≡ bits ++ joined fields
one-bits bits fields =
    joined-cons (length bits, value_of bits) fields ∙ ap (λ t. t ++ joined fields) (field-value_of bits)

rows-bits : (n : ℕ) (bits : List Bool) → joined (fields_in (bits_fields n bits)) ≡ bits
rows-bits zero [] = joined-nil
rows-bits zero (b ∷ bits) =
    one-bits (b ∷ bits) [] ∙ (ap (λ t. (b ∷ bits) ++ t) joined-nil ∙ append-nil (b ∷ bits))
rows-bits (suc n) bits =
    one-bits (take 64 bits) (fields_in (bits_fields n (drop 64 bits)))
    ∙ (ap (λ t. take 64 bits ++ t) (rows-bits n (drop 64 bits)) ∙ take-append-drop 64 bits)

pub kept-bits : (bits : List Bool) → joined (fields_in (kept_content bits)) ≡ bits
kept-bits bits = ap (λ fields. joined (fields_in fields)) (kept-rows bits) ∙ rows-bits (length bits / 64) bits

rows-fit : (n : ℕ) (bits : List Bool) → length bits < 64 * n + 64 → AllByRecursion NamedFits (bits_fields n bits)
rows-fit zero [] h = tt
rows-fit zero (b ∷ bits) h = ((omega (arith, h), value_of-fits (b ∷ bits)), tt)
rows-fit (suc n) bits h = (
  (omega (arith, length-take 64 bits), value_of-fits (take 64 bits)),
  rows-fit n (drop 64 bits) (omega (arith, length-drop 64 bits, h)),
)

pub kept-fit : (bits : List Bool) → AllByRecursion NamedFits (kept_content bits)
kept-fit bits =
    subst (λ (fields : List Named). AllByRecursion NamedFits fields) (sym (kept-rows bits))
    (rows-fit (length bits / 64) bits (omega arith))

pub kept-wide : (bits : List Bool) → widths (fields_in (kept_content bits)) ≡ length bits
kept-wide bits = sym (length-joined (fields_in (kept_content bits))) ∙ ap length (kept-bits bits)

-- ---- the next field

no-rows : (n : ℕ) → n ≡ 0 → bits_fields n [] ≡ []
no-rows zero e = refl
no-rows (suc n) e = absurd (omega (arith, e))

pub kept-none : kept_content [] ≡ []
kept-none = kept-rows [] ∙ no-rows (0 / 64) (omega arith)

-- a width below 64 is that of all bits, so it is 64 if those are more
full : (w long : ℕ) → w ≤ 64 → 64 ≤ long → (w < 64 → w ≡ long) → (w < 64) ⊎ (64 ≤ w) → 64 ≡ w
full w long most many last (inl h) = absurd (omega (arith, h, last h, many))
full w long most many last (inr h) = omega (arith, most, h)

next-row : (n w : ℕ) (bits : List Bool) → n ≡ length bits / 64 → w ≤ length bits → w ≤ 64 → 0 < w
    → (w < 64 → w ≡ length bits)
    → bits_fields n bits ≡ bits_field (take w bits) ∷ kept_content (drop w bits)
next-row n w [] e within most some last = absurd (omega (arith, within, some))
next-row zero w (b ∷ bits) e within most some last =
    let all : w ≡ length (b ∷ bits) = last (omega (arith, e, within)) in
    ap (λ (t : List Bool). bits_field t ∷ []) (sym (take_all w (b ∷ bits) (omega (arith, all))))
    ∙ ap (λ (t : List Named). bits_field (take w (b ∷ bits)) ∷ t)
    (sym (ap kept_content (drop_all w (b ∷ bits) (omega (arith, all))) ∙ kept-none))
next-row (suc n) w (b ∷ bits) e within most some last =
    let long : 64 ≤ length (b ∷ bits) = omega (arith, e) in
    let whole : 64 ≡ w = full w (length (b ∷ bits)) most long last (cases_lt w 64) in
    let rows : n ≡ length (drop 64 (b ∷ bits)) / 64 = omega (arith, e, length-drop 64 (b ∷ bits)) in
    ap (λ (t : List Named). bits_field (take 64 (b ∷ bits)) ∷ t)
    (ap (λ (k : ℕ). bits_fields k (drop 64 (b ∷ bits))) rows ∙ sym (kept-rows (drop 64 (b ∷ bits))))
    ∙ ap (λ (k : ℕ). bits_field (take k (b ∷ bits)) ∷ kept_content (drop k (b ∷ bits))) whole

pub next-bits : (w : ℕ) (bits : List Bool) → w ≤ length bits → w ≤ 64 → 0 < w → (w < 64 → w ≡ length bits)
    → kept_content bits ≡ bits_field (take w bits) ∷ kept_content (drop w bits)
next-bits w bits within most some last = kept-rows bits ∙ next-row (length bits / 64) w bits refl within most some last

-- ## Packets that are kept

pub kept_fields-bits : (p : Packet)
    → joined (fields_in (packet_shown Train p.nid_packet (kept_content p.bits))) ≡ packet_bits p
unfolding opaque_bits
kept_fields-bits p =
    let content = fields_in (kept_content p.bits) in
    joined-append ((8, p.nid_packet) ∷ []) ((13, 21 + widths content) ∷ content)
    ∙ ap (λ (t : List Bool). joined ((8, p.nid_packet) ∷ []) ++ t)
    (joined-append ((13, 21 + widths content) ∷ []) content
    ∙ (ap (λ (t : List Bool). joined ((13, 21 + widths content) ∷ []) ++ t) (kept-bits p.bits)
    ∙ ap (λ (k : ℕ). joined ((13, 21 + k) ∷ []) ++ p.bits) (kept-wide p.bits)))

pub kept_fields-fit : (p : Packet) → PacketFits p
    → AllByRecursion NamedFits (packet_shown Train p.nid_packet (kept_content p.bits))
kept_fields-fit p f = (
  (omega arith, f.nid_packet),
  ((omega arith, omega (arith, f.bits, kept-wide p.bits)), kept-fit p.bits),
)

-- the bits of fields, one after the other
pub shown-both : (a b : List Named)
    → joined (fields_in (a ++ b)) ≡ joined (fields_in a) ++ joined (fields_in b)
shown-both a b = ap joined (map-append (λ (f : Named). f.field) a b) ∙ joined-append (fields_in a) (fields_in b)

pub further-bits : (packets : List Packet)
    → joined (fields_in (packets_shown Train (map kept packets))) ≡ flat_map packet_bits packets
further-bits [] = joined-nil
further-bits (p ∷ packets) =
    let others = packets_shown Train (map kept packets) in
    shown-both (packet_shown Train p.nid_packet (kept_content p.bits)) others
    ∙ (ap (λ (t : List Bool). t ++ joined (fields_in others)) (kept_fields-bits p)
    ∙ ap (λ (t : List Bool). packet_bits p ++ t) (further-bits packets))

pub further-laid : (packets : List Packet) → AllByRecursion IsFurther packets
    → AllByRecursion (IsLaidPacket Train) (map kept packets)
further-laid [] h = tt
further-laid (p ∷ packets) h = (inr (refl, h.0.0, p.bits, refl), further-laid packets h.1)

use Rattle.std.proofs.Common.{◌++◌, ◌+◌, ◌∙◌, ◌≡◌, ◌≢◌, ap, arith, length, refl, subst, sym}
use Rattle.rbc_packets.specs.Layout.{joined, widths}
use Rattle.text_fields.proofs.Kept.{kept-bits}
use Rattle.text_fields.proofs.Packet.{either, long, nid_packet}
use Rattle.text_fields.proofs.Steps.{at_end, both, first, second}
use Rattle.text_fields.proofs.walk.Walk.packet.Goals as goal
use Rattle.text_fields.specs.Messages.{packet_head}
use Rattle.text_fields.specs.Named.{fields_in}
use Rattle.text_fields.specs.Walks.{after, IsContent, IsKept, Next, Shows}

pub returns-clause-shows : goal.returns-clause-shows
returns-clause-shows c = λ n content laid e rest next.
    let side = c.args.side in
    let old = c.args.self.now.look in
    let one = c.take.new.self.look in
    let head = packet_head side (widths (fields_in content)) in
    let body = head ++ content in
    let zero_end : Next (nid_packet n ++ body) rest old 0 = record
    { bits = next.bits; fit = next.fit; within = omega arith } in
    let its = at_end (nid_packet n) (after body rest) old c.args.self.now.end e
    (first (nid_packet n) body rest old 0 zero_end) in
    let s = c.in_ok-take.ensures.shows n (after body rest) its in
    let number = c.in_ok-take.ensures.last n (after body rest) its in
    let end : c.take.new.self.end ≡ 0 = s.2 ∙ e in
    let begun : c.room-begun.result ≡ 8 + length one.1 =
    omega (
      arith,
      c.room-begun.ensures,
      e,
      long (nid_packet n) (after body rest) old c.args.self.now.end its,
      ap length s.1.left,
    ) in
    let there = second (nid_packet n) body rest old one 0 0 zero_end s.1 (omega arith) in
    let same = c.note_packet.ensures.look in
    let whole : IsContent side n content → Shows body rest one c.unread.new.self.look = λ is.
    let t = c.in_ok-is_right.ensures.shows content rest (subst (λ k. IsContent side k content) (sym number) is)
    end begun there in
    let kept = c.in_ok-unread.ensures.none (omega (
      arith,
      ap (λ look. length look.1) same,
      ap length t.0.left,
      t.1,
      c.note_packet.ensures.end,
    )) in
    subst (λ look. Shows body rest one look) (sym (kept ∙ same)) t.0 in
    let bits : IsKept side n content → Shows body rest one c.unread.new.self.look = λ is.
    let t = c.in_ok-is_right.ensures.kept is.0 (subst (λ k. k ≢ 0) (sym number) is.1) content rest end begun there in
    let u = c.in_ok-unread.ensures.shows is.2 rest
    (ap (λ look. look.1) same ∙ (t.0.left
    ∙ (ap (λ fields. joined (fields_in fields) ++ rest) is.3 ∙ ap (λ bits. bits ++ rest) (kept-bits is.2))))
    (c.note_packet.ensures.end ∙ t.1) in
    both head content rest one _ c.unread.new.self.look t.0
    (subst (λ look. Shows content rest look c.unread.new.self.look) same
    (subst (λ fields. Shows fields rest c.note_packet.new.self.look c.unread.new.self.look) (sym is.3) u)) in (
      refl,
      both (nid_packet n) body rest old one c.unread.new.self.look s.1 (either laid whole bits),
      sym e,
    )

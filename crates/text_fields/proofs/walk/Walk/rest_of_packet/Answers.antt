use Rattle.std.proofs.Common.{◌∙◌, ◌≡◌, arith, length, subst, sym, true≢false}
use Rattle.rbc_packets.specs.Layout.{widths}
use Rattle.text_fields.proofs.Packet.{long_after}
use Rattle.text_fields.proofs.Steps.{both, first, second}
use Rattle.text_fields.proofs.walk.Walk.rest_of_packet.Goals as goal
use Rattle.text_fields.specs.Messages.{packet_head}
use Rattle.text_fields.specs.Named.{fields_in}
use Rattle.text_fields.specs.Walks.{after, Shows}

pub returns-then-not-branch-clause-shows : goal.returns-then-not-branch-clause-shows
returns-then-not-branch-clause-shows c = λ content rest is e b n.
    let head = packet_head c.args.side (widths (fields_in content)) in
    let s = c.in_ok-packet_end.ensures.shows (widths (fields_in content)) (after content rest) (omega (
      arith,
      long_after content rest,
    )) e b
    (first head content rest c.args.self.now.look 0 n) in
    absurd (true≢false (sym s.0 ∙ c.if-not-branch.true))

pub returns-then-not-branch-2-clause-shows : goal.returns-then-not-branch-2-clause-shows
returns-then-not-branch-2-clause-shows c = λ content rest is e b n.
    let head = packet_head c.args.side (widths (fields_in content)) in
    let s = c.in_ok-packet_end.ensures.shows (widths (fields_in content)) (after content rest) (omega (
      arith,
      long_after content rest,
    )) e b
    (first head content rest c.args.self.now.look 0 n) in
    let end : c.packet_end.new.self.end ≡ length rest = omega (arith, s.2, long_after content rest) in
    let t = c.in_ok-content.ensures.shows content is rest
    (second head content rest c.args.self.now.look c.packet_end.new.self.look 0 c.packet_end.new.self.end n s.1
    (omega (arith, end))) in
    absurd (true≢false (sym t.0 ∙ c.if-not-branch-2.true))

pub returns-clause-shows : goal.returns-clause-shows
returns-clause-shows c = λ content rest is e b n.
    let head = packet_head c.args.side (widths (fields_in content)) in
    let s = c.in_ok-packet_end.ensures.shows (widths (fields_in content)) (after content rest) (omega (
      arith,
      long_after content rest,
    )) e b
    (first head content rest c.args.self.now.look 0 n) in
    let end : c.packet_end.new.self.end ≡ length rest = omega (arith, s.2, long_after content rest) in
    let t = c.in_ok-content.ensures.shows content is rest
    (second head content rest c.args.self.now.look c.packet_end.new.self.look 0 c.packet_end.new.self.end n s.1
    (omega (arith, end))) in
    (both head content rest c.args.self.now.look c.packet_end.new.self.look c.content.new.self.look s.1 t.1, t.2 ∙ end)

pub returns-then-not-branch-clause-kept : goal.returns-then-not-branch-clause-kept
returns-then-not-branch-clause-kept c = λ train some content rest e b n.
    let head = packet_head c.args.side (widths (fields_in content)) in
    let s = c.in_ok-packet_end.ensures.shows (widths (fields_in content)) (after content rest) (omega (
      arith,
      long_after content rest,
    )) e b
    (first head content rest c.args.self.now.look 0 n) in
    absurd (true≢false (sym s.0 ∙ c.if-not-branch.true))

pub returns-then-not-branch-2-clause-kept : goal.returns-then-not-branch-2-clause-kept
returns-then-not-branch-2-clause-kept c = λ train some content rest e b n.
    let head = packet_head c.args.side (widths (fields_in content)) in
    let s = c.in_ok-packet_end.ensures.shows (widths (fields_in content)) (after content rest) (omega (
      arith,
      long_after content rest,
    )) e b
    (first head content rest c.args.self.now.look 0 n) in
    let end : c.packet_end.new.self.end ≡ length rest = omega (arith, s.2, long_after content rest) in
    let same = c.in_ok-content.ensures.kept train some in
    (subst (λ look. Shows head (after content rest) c.args.self.now.look look) (sym same.0) s.1, same.1 ∙ end)

pub returns-clause-kept : goal.returns-clause-kept
returns-clause-kept c = λ train some content rest e b n.
    let head = packet_head c.args.side (widths (fields_in content)) in
    let s = c.in_ok-packet_end.ensures.shows (widths (fields_in content)) (after content rest) (omega (
      arith,
      long_after content rest,
    )) e b
    (first head content rest c.args.self.now.look 0 n) in
    let end : c.packet_end.new.self.end ≡ length rest = omega (arith, s.2, long_after content rest) in
    let same = c.in_ok-content.ensures.kept train some in
    (subst (λ look. Shows head (after content rest) c.args.self.now.look look) (sym same.0) s.1, same.1 ∙ end)

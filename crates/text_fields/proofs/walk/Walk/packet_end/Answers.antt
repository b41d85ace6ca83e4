use Rattle.std.proofs.Common.{◌∙◌, sym, refl, true≢false, arith}
use Rattle.text_fields.specs.Messages.{packet_head}
use Rattle.text_fields.proofs.Steps.{at_end}
use Rattle.text_fields.proofs.Packet.{ended}
use Rattle.text_fields.proofs.walk.Walk.packet_end.Goals as goal

pub returns-then-not-branch-clause-shows : goal.returns-then-not-branch-clause-shows
returns-then-not-branch-clause-shows c = λ count rest within e b n.
    let s = c.in_ok-head.ensures.shows count rest (at_end (packet_head c.args.side count) rest c.args.self.now.look
    c.args.self.now.end e n) in
    absurd (true≢false (sym s.0 ∙ c.if-not-branch.true))

pub returns-in-Some-clause-shows : goal.returns-in-Some-clause-shows
returns-in-Some-clause-shows c = λ count rest within e b n.
    let t = ended c.args.side count rest c.args.self.now.look c.head.new.self.look c.in_ok-head.field-0 c.args.begun
    c.args.self.now.end c.head.new.self.end
    c.room-room.result c.from-header.result c.head.new.self.last e b n (c.in_ok-head.ensures.shows count)
    (c.in_ok-head.ensures.last count)
    c.room-room.ensures (c.from-header.ensures ∙ c.saturating_sub.ensures) in
    (refl, t.shows, omega (arith, c.in-Some.ensures.1, t.last_is, t.room_is, within))

pub returns-in_default-clause-shows : goal.returns-in_default-clause-shows
returns-in_default-clause-shows c = λ count rest within e b n.
    let t = ended c.args.side count rest c.args.self.now.look c.head.new.self.look c.in_ok-head.field-0 c.args.begun
    c.args.self.now.end c.head.new.self.end
    c.room-room.result c.from-header.result c.head.new.self.last e b n (c.in_ok-head.ensures.shows count)
    (c.in_ok-head.ensures.last count)
    c.room-room.ensures (c.from-header.ensures ∙ c.saturating_sub.ensures) in
    absurd (omega (arith, c.in-Some.ensures.1, t.last_is, t.room_is, within, c.from.ensures, c.if-rest-from.false))

pub returns-in_default-2-clause-shows : goal.returns-in_default-2-clause-shows
returns-in_default-2-clause-shows c = λ count rest within e b n.
    let t = ended c.args.side count rest c.args.self.now.look c.head.new.self.look c.in_ok-head.field-0 c.args.begun
    c.args.self.now.end c.head.new.self.end
    c.room-room.result c.from-header.result c.head.new.self.last e b n (c.in_ok-head.ensures.shows count)
    (c.in_ok-head.ensures.last count)
    c.room-room.ensures (c.from-header.ensures ∙ c.saturating_sub.ensures) in
    absurd (c.in_default.ensures (omega (arith, t.last_is)))

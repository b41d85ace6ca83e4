use Rattle.std.proofs.Common.{◌+◌, ◌≡◌, ap, arith, length}
use Rattle.rbc_link.proofs.Frames.{frames_more, numbered_more}
use Rattle.rbc_link.proofs.outbox.Outbox.send.Goals as goal
use Rattle.rbc_link.specs.Outgoing.{Outgoing}

pub invariant_of-self : goal.invariant_of-self
invariant_of-self g c =
    let same : length c.self.inside.frames.items ≡ length c.args.self.now.frames =
    ap (λ (o : Outgoing g.row.B.Denot). length o.frames) c.self.view_is in
    frames_more c.self.inside.frames.items c.push_reserved.new.self.items (c.count-number.result + 1) c.args.stamp
    c.args.body c.push_reserved.ensures.items
    (omega (arith, same, c.count-number.ensures.value)) (omega (arith, same, c.requires.numbers))
    c.requires.stamped c.self.invariant

pub returns-clause-numbered : goal.returns-clause-numbered
returns-clause-numbered g c meaning =
    let same : length c.self.inside.frames.items ≡ length c.args.self.now.frames =
    ap (λ (o : Outgoing g.row.B.Denot). length o.frames) c.self.view_is in
    rw (← c.self.view_is) (numbered_more meaning c.self.inside.frames.items c.push_reserved.new.self.items
    (c.count-number.result + 1) c.args.stamp c.args.body c.push_reserved.ensures.items
    (omega (arith, same, c.count-number.ensures.value)))

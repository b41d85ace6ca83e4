use Rattle.std.proofs.Common.{arith}
use Rattle.text_fields.proofs.Packet.{has_number}
use Rattle.text_fields.proofs.walk.Walk.wanted.Goals as goal

pub returns-then-room-lt8-clause-shows : goal.returns-then-room-lt8-clause-shows
returns-then-room-lt8-clause-shows c = λ n content laid e rest next.
    absurd (omega (
      arith,
      has_number c.args.side n content rest c.args.self.now.look c.args.self.now.end next,
      c.room.ensures,
      c.if-room-lt8.true,
    ))

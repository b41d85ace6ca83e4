use Rattle.rbc_msgs.proofs.Placed.{position-spelled}
use Rattle.rbc_msgs.proofs.usual.last_position.Goals as goal

pub returns-clause-taken : goal.returns-clause-taken
returns-clause-taken c =
    let bits = c.in_ok-bits in
    let left = c.position_bits.new.reader in (
      left,
      position-spelled c.args.rest bits.bits left c.in_ok-position.position bits.ensures.taken bits.ensures.length
          c.in_ok-position.ensures.found.0,
      c.in-Ok.ensures.filling,
    )

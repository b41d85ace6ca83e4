use Rattle.std.proofs.Common.{arith}
use Rattle.rbc_packets.proofs.Again.{filled-front, filled-narrow}
use Rattle.rbc_packets.proofs.opaque.bytes_of.Goals as goal

pub returns-in_ok-written-in-None-clause-ok : goal.returns-in_ok-written-in-None-clause-ok
returns-in_ok-written-in-None-clause-ok c =
    rw c.from_vec.ensures.items (filled-front c.in_ok-written-in-None.field-0.items c.args.bits
    c.in_ok-written-in-None.ensures.ok)

pub returns-in_ok-written-in-None-clause-few : goal.returns-in_ok-written-in-None-clause-few
returns-in_ok-written-in-None-clause-few c =
    rw c.from_vec.ensures.items
    (omega (
      arith,
      filled-narrow c.in_ok-written-in-None.field-0.items c.args.bits c.in_ok-written-in-None.ensures.ok,
      c.requires,
    ))

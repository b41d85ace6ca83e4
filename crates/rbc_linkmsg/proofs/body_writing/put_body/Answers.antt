use Rattle.std.proofs.Common.{rules}
use Rattle.rbc_linkmsg.proofs.body_writing.put_body.Goals as goal

pub returns-in-Yield : goal.returns-in-Yield
returns-in-Yield c = rw (c.in-Yield.is, ← c.yield_bytes.ensures) (search rules)

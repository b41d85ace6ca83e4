use Rattle.std.proofs.Common.{arith, sym}
use Rattle.rbc_msgs.proofs.reading.end.Goals as goal
use Rattle.rbc_msgs.proofs.Spelled.{end_at-again, filling-found, none-filling}

pub returns-clause-filling : goal.returns-clause-filling
returns-clause-filling c =
    filling-found c.args.reader c.take.new.reader c.remaining-left.result c.in_ok-take.field-0 c.remaining-left.ensures
    (omega arith) c.if-branch-ne0.false c.in_ok-take.ensures.taken

pub returns-then-left-eq0-clause-filling : goal.returns-then-left-eq0-clause-filling
returns-then-left-eq0-clause-filling c =
    none-filling c.args.reader (omega (arith, c.if-left-eq0.true, c.remaining-left.ensures))

pub returns-then-left-eq0-clause-exact : goal.returns-then-left-eq0-clause-exact
returns-then-left-eq0-clause-exact c =
    sym (end_at-again c.args.more c.args.reader
    (none-filling c.args.reader (omega (arith, c.if-left-eq0.true, c.remaining-left.ensures))))

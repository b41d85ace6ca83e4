use Rattle.std.proofs.Common.{[], arith}
use Rattle.rbc_msgs.proofs.Further.{all-read, none-read}
use Rattle.rbc_msgs.proofs.train_reading.read_further.Goals as goal

pub returns-then-remaining-lt8-clause-exact : goal.returns-then-remaining-lt8-clause-exact
returns-then-remaining-lt8-clause-exact c =
    rw c.none.ensures
    (all-read c.args.reader.now c.args.reader.now [] (none-read c.args.reader.now)
    (omega (arith, c.if-remaining-lt8.true, c.remaining.ensures)))

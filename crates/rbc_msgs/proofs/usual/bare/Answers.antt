use Rattle.std.proofs.Common.{◌++◌, ap, sym}
use Rattle.rbc_msgs.proofs.TrainLaws.{read_train-again, spells-alone}
use Rattle.rbc_msgs.proofs.usual.bare.Goals as goal
use Rattle.rbc_msgs.specs.Numbers.{train_number_value}

pub returns-clause-found : goal.returns-clause-found
returns-clause-found c =
    let h = c.in_ok-header in
    let rest = h.header.rest in
    rw c.new.ensures
    (spells-alone c.args.bytes.now _ (train_number_value c.in-Ok.number) rest rest
    (sym c.in_ok-body.ensures.number) h.ensures.taken
    (ap (λ t. t ++ rest) (sym c.in_ok-body.ensures.bits))
    c.none.ensures c.in-Ok-end.ensures.filling h.ensures.length h.ensures.time h.ensures.engine
    c.in_ok-body.ensures.fits)

pub returns-clause-exact : goal.returns-clause-exact
returns-clause-exact c = read_train-again c.args.bytes.now _ (returns-clause-found c)

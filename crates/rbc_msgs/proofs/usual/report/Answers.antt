use Rattle.std.proofs.Common.{refl}
use Rattle.rbc_msgs.proofs.TrainLaws.{read_train-again, spells-alone}
use Rattle.rbc_msgs.proofs.usual.report.Goals as goal

pub returns-clause-found : goal.returns-clause-found
returns-clause-found c =
    let h = c.in_ok-header in
    let p = c.in_ok-position.ensures in
    rw c.new.ensures
    (spells-alone c.args.bytes.now _ 136 h.header.rest p.taken.0 refl h.ensures.taken p.taken.1 c.none.ensures p.taken.2
    h.ensures.length h.ensures.time h.ensures.engine p.fits)

pub returns-clause-exact : goal.returns-clause-exact
returns-clause-exact c = read_train-again c.args.bytes.now _ (returns-clause-found c)

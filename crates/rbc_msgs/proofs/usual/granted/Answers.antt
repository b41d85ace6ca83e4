use Rattle.std.proofs.Common.{◌++◌, ◌∙◌, ap, refl, sym}
use Rattle.rbc_bits.specs.Bits.{field}
use Rattle.rbc_msgs.proofs.Placed.{field-spelled}
use Rattle.rbc_msgs.proofs.TrainLaws.{read_train-again, spells-alone}
use Rattle.rbc_msgs.proofs.usual.granted.Goals as goal

pub returns-clause-found : goal.returns-clause-found
returns-clause-found c =
    let h = c.in_ok-header in
    let p = c.in_ok-position.ensures in
    let mid = c.take.new.reader in
    rw c.new.ensures (spells-alone c.args.bytes.now _ 137 h.header.rest p.taken.0 refl h.ensures.taken
    (field-spelled h.header.rest mid p.taken.0 32 c.new-request.result c.in_ok-position.position
    (c.in-Ok.ensures.taken ∙ ap (λ v. field 32 v ++ mid) (sym c.new-request.ensures)) p.taken.1)
    c.none.ensures p.taken.2 h.ensures.length h.ensures.time h.ensures.engine
    (rw c.new-request.ensures c.in-Ok.ensures.fits, p.fits))

pub returns-clause-exact : goal.returns-clause-exact
returns-clause-exact c = read_train-again c.args.bytes.now _ (returns-clause-found c)

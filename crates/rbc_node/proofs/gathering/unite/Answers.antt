use Rattle.std.proofs.Common.{subst}
use Rattle.std.proofs.lemmas.Result.{err_from_is_err_and}
use Rattle.rbc_node.proofs.Gathered.{unites}
use Rattle.rbc_node.proofs.gathering.unite.Goals as goal
use Rattle.rbc_node.specs.Gather.{IsGatherFault}

pub returns-in_err-are_family : goal.returns-in_err-are_family
returns-in_err-are_family c =
    let p = err_from_is_err_and c.from_residual-in_err-are_family.result c.from_residual-in_err-are_family.ensures.1 in
    rw (p.1, p.2) (unites c.args.logs.items c.in_ok-logs.logs.items c.args.shares.now c.in_err-are_family.field-0.0
    c.in_ok-logs.ensures.ordered
    (subst (λ ls. IsGatherFault ls c.args.shares.now c.in_err-are_family.field-0.0) c.as_slice.ensures.value
    c.in_err-are_family.ensures.fault))

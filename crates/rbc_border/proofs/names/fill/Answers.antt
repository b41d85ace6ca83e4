use Rattle.std.proofs.Common.{◌+◌, arith, refl}
use Rattle.rbc_allocation.proofs.Runs.{takes_next}
use Rattle.rbc_border.proofs.Hands.{names_count}
use Rattle.rbc_border.proofs.names.fill.Goals as goal

pub add-requires : goal.add-requires
add-requires c =
    let long =
    names_count c.args.nid_engine c.args.home c.args.sections.first c.loop-k.k c.loop-k.names c.loop-k.invariant in
    takes_next c.loop-k.names c.args.sections.first 0 c.loop-k.k c.args.sections.count
    (c.args.sections.first + c.loop-k.k) refl
    (omega (arith, long)) (λ some. omega (arith, c.loop-k.invariant.begins (omega (arith, long, some)))) (omega arith)
    (omega arith) c.loop-k-test.true

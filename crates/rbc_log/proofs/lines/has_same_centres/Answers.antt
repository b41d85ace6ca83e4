use Rattle.std.proofs.Common.{arith, refl}
use Rattle.rbc_log.proofs.lines.has_same_centres.Goals as goal
use Rattle.rbc_log.proofs.SameLines.{same_list}

pub returns : goal.returns
returns c = (
  λ _. same_list c.args.a.now.centres c.args.b.now.centres (omega arith)
      (λ k within. c.loop-c.invariant k (omega (arith, within))),
  λ _. refl,
)

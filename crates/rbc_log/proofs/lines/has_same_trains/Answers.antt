use Rattle.std.proofs.Common.{arith, refl}
use Rattle.rbc_log.proofs.lines.has_same_trains.Goals as goal
use Rattle.rbc_log.proofs.SameLines.{same_list}

pub returns : goal.returns
returns c = (
  λ _. same_list c.args.a.now.trains c.args.b.now.trains (omega arith)
      (λ k within. c.loop-i.invariant k (omega (arith, within))),
  λ _. refl,
)

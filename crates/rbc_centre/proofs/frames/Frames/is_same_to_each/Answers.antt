use Rattle.std.proofs.Common.{arith, refl}
use Rattle.rbc_centre.proofs.frames.Frames.is_same_to_each.Goals as goal
use Rattle.rbc_centre.proofs.Rows.{same_all}

pub returns : goal.returns
returns c = let past = c.loop-to-test.false in (
  λ t. same_all c.args.self.now c.args.other.now c.loop-to.to (omega (arith, past)) c.loop-to.invariant,
  λ same. refl,
)

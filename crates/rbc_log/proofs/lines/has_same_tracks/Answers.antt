use Rattle.std.proofs.Common.{arith, refl}
use Rattle.rbc_log.proofs.lines.has_same_tracks.Goals as goal
use Rattle.rbc_log.proofs.SameLines.{same_list}

pub returns : goal.returns
returns c = (
  λ _. same_list c.args.a.now.tracks c.args.b.now.tracks (omega arith)
      (λ k within. c.loop-track.invariant k (omega (arith, within))),
  λ _. refl,
)

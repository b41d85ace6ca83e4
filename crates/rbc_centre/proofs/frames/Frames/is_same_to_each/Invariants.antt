use Rattle.std.proofs.Common.{◌<◌, ◌≡◌, ℕ}
use Rattle.rbc_centre.proofs.frames.Frames.is_same_to_each.Given as goal
use Rattle.rbc_centre.specs.Sent.{frames_to}

abbrev pub invariant-loop-to : goal.invariant-loop-to
invariant-loop-to l = (d : ℕ) → d < l.to → frames_to l.self d ≡ frames_to l.other d

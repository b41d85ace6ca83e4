use Rattle.std.proofs.Common.{◌≡◌, take}
use Rattle.rbc_centre.proofs.frames.Frames.to.Given as goal
use Rattle.rbc_centre.specs.Listed.{frames_in}

abbrev pub invariant-loop-sent : goal.invariant-loop-sent
invariant-loop-sent l = l.frames.items ≡ frames_in (take l.sent-index l.sent-items) l.centre

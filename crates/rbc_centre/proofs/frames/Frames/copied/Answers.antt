use Rattle.std.proofs.Common.{◌∙◌, ap, arith}
use Rattle.std.proofs.lemmas.List.{take_all}
use Rattle.rbc_centre.proofs.frames.Frames.copied.Goals as goal
use Rattle.rbc_centre.specs.Listed.{frames_in}
use Rattle.rbc_centre.specs.Sent.{frames_to}

pub returns : goal.returns
unfolding frames_to
returns c =
    let past = c.loop-frame-test.false in
    ap frames_in (c.loop-frame.invariant.items
    ∙ take_all c.loop-frame.frame-index c.as_slice-frames.result.now (omega (arith, past))
    ∙ c.as_slice-frames.ensures.list)

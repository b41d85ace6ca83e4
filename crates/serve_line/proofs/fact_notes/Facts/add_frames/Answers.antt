use Rattle.std.proofs.Common.{arith}
use Rattle.serve_line.proofs.FactLemmas.{adds_whole}
use Rattle.serve_line.proofs.fact_notes.Facts.add_frames.Goals as goal
use Rattle.serve_line.specs.Facts.{fact_list, fact_of_frame}

pub returns : goal.returns
returns c =
    adds_whole (λ f. fact_list (fact_of_frame f.to f.frame.body))
    c.args.frames.now c.loop-sent.sent-index c.args.self.now c.loop-sent.self
    (omega arith) c.loop-sent.invariant

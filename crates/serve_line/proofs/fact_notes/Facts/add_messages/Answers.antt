use Rattle.std.proofs.Common.{arith}
use Rattle.serve_line.proofs.FactLemmas.{adds_whole}
use Rattle.serve_line.proofs.fact_notes.Facts.add_messages.Goals as goal
use Rattle.serve_line.specs.Facts.{fact_list, fact_of_message}

pub returns : goal.returns
returns c =
    adds_whole (λ s. fact_list (fact_of_message s.nid_engine s.message.body))
    c.args.sayings.now c.loop-saying.saying-index c.args.self.now c.loop-saying.self
    (omega arith) c.loop-saying.invariant

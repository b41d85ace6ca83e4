use Rattle.std.proofs.Common.{arith}
use Rattle.serve_line.proofs.FactLemmas.{adds_next, adds_whole}
use Rattle.serve_line.proofs.fact_notes.Facts.add_piece.Goals as goal
use Rattle.serve_line.specs.Facts.{facts_of}

pub loop-entry-preserved : goal.loop-entry-preserved
loop-entry-preserved c =
    adds_next facts_of c.args.piece.now c.loop-entry.entry-index c.entry-item.result c.args.self.now c.loop-entry.self
    c.add_all.new.self c.loop-entry-test.true c.entry-item.is c.loop-entry.invariant c.add_all.ensures

pub returns : goal.returns
returns c =
    adds_whole (facts_of) c.args.piece.now c.loop-entry.entry-index c.args.self.now c.loop-entry.self
    (omega arith) c.loop-entry.invariant

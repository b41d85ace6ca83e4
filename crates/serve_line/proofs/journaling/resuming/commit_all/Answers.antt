use Rattle.serve_line.proofs.journaling.resuming.commit_all.Goals as goal
use Rattle.serve_line.proofs.JournalingLemmas.Resumed.{resumed_next}

pub loop-entry-preserved : goal.loop-entry-preserved
loop-entry-preserved g c =
    resumed_next c.args.nodes.now c.args.entries.now c.loop-entry.entry-index c.entry-item.result c.args.shares.now
    c.loop-entry.shares _
    c.loop-entry-test.true c.entry-item.is c.loop-entry.invariant c.in_ok-commit_entry.ensures

use Rattle.text_script.proofs.print.print.print_trains.Goals as goal
use Rattle.text_script.proofs.PrintLemmas.After.{train_after}

pub loop-nid_engine-preserved : goal.loop-nid_engine-preserved
loop-nid_engine-preserved g c v shows =
    train_after _ _ _ c.args.line.now v c.args.view.now _ c.loop-nid_engine.nid_engine-index _ _ shows
    c.loop-nid_engine-test.true c.supervisor_of.ensures
    (c.loop-nid_engine.invariant v shows) c.in_ok-print_train.ensures

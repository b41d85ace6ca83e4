use Rattle.text_scenario.proofs.judge.supervisor_in.Goals as goal
use Rattle.text_script.proofs.PrintLemmas.Seats.{none_next, seat_here}

pub returns-then-train-nid_engine : goal.returns-then-train-nid_engine
returns-then-train-nid_engine c =
    seat_here c.args.nid_engine c.deref-train-items.result.now _ c.loop-train.train-index c.train-item.result _
    c.deref-train-items.ensures.value c.loop-train-test.true
    c.loop-train.invariant c.train-item.is c.if-train-nid_engine.true c.supervisor.ensures

pub loop-train-preserved : goal.loop-train-preserved
loop-train-preserved c =
    none_next c.args.nid_engine c.deref-train-items.result.now c.loop-train.train-index c.train-item.result
    c.loop-train-test.true c.loop-train.invariant
    c.train-item.is c.if-train-nid_engine.false

use Rattle.rbc_line.proofs.read.read_trains.Goals as goal
use Rattle.rbc_line.proofs.ReadSteps.{each_end, each_more, each_stop}
use Rattle.rbc_line.specs.DraftViews.{train_view}
use Rattle.rbc_line.specs.LineFile.{file_train}

pub returns-in-None : goal.returns-in-None
returns-in-None c =
    each_stop file_train _ c.args.items.now c.loop-item.item-index c.item-item.result _ c.loop-item-test.true
    c.item-item.is c.in-None.ensures c.loop-item.invariant

pub loop-item-preserved : goal.loop-item-preserved
loop-item-preserved c =
    each_more train_view file_train _ c.args.items.now c.loop-item.item-index c.item-item.result
    c.loop-item.trains.items _ c.in-Some.train c.loop-item-test.true c.item-item.is c.in-Some.ensures
    c.in_ok-push-in-Some.ensures.items c.loop-item.invariant

pub returns : goal.returns
returns c = each_end file_train _ c.args.items.now c.loop-item.item-index _ c.loop-item-test.false c.loop-item.invariant

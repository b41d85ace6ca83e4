use Rattle.rbc_line.proofs.read.read_sections.Goals as goal
use Rattle.rbc_line.proofs.ReadSteps.{each_end, each_more, each_stop}
use Rattle.rbc_line.specs.DraftViews.{section_view}
use Rattle.rbc_line.specs.LineFile.{file_section}

pub returns-in-None : goal.returns-in-None
returns-in-None c =
    each_stop (file_section c.args.track) _ c.args.items.now c.loop-item.item-index c.item-item.result _
    c.loop-item-test.true c.item-item.is c.in-None.ensures c.loop-item.invariant

pub loop-item-preserved : goal.loop-item-preserved
loop-item-preserved c =
    each_more section_view (file_section c.args.track) _ c.args.items.now c.loop-item.item-index c.item-item.result
    c.loop-item.sections.items _ c.in-Some.section c.loop-item-test.true c.item-item.is c.in-Some.ensures
    c.in_ok-push-in-Some.ensures.items c.loop-item.invariant

pub returns : goal.returns
returns c =
    each_end (file_section c.args.track) _ c.args.items.now c.loop-item.item-index _ c.loop-item-test.false
    c.loop-item.invariant

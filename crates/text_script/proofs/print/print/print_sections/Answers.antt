use Rattle.text_script.proofs.print.print.print_sections.Goals as goal
use Rattle.text_script.proofs.PrintLemmas.After.{section_after}

pub loop-number-preserved : goal.loop-number-preserved
loop-number-preserved g c v shows =
    section_after _ _ _ c.args.line.now v c.args.view.now _ c.loop-number.number _ shows
    c.deref-section-items.ensures.value c.loop-number-test.true
    (c.loop-number.invariant v shows) c.in_ok-print_section.ensures

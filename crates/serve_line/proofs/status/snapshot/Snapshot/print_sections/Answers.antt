use Rattle.std.proofs.Common.{◌∙◌, ap}
use Rattle.serve_line.proofs.Ranges.{flat_after}
use Rattle.serve_line.proofs.status.snapshot.Snapshot.print_sections.Goals as goal
use Rattle.serve_line.specs.Snapshots.{is_given_in, page_in, section_row_in}
use Rattle.text_script.specs.Print.Rows.{section_row}
use Rattle.text_script.specs.rbc_world.View.{mark_by}

pub loop-s-preserved : goal.loop-s-preserved
loop-s-preserved c =
    let line = c.args.line.now in
    let v = c.args.self.now in
    let s = c.loop-s.s in
    flat_after (section_row_in line v) s c.args.text.now.items c.loop-s.text.items _ _
    c.in_ok-print_section.ensures
    (ap (λ m. section_row line s m c.section.result.is_wished) c.section.ensures.mark
    ∙ ap (section_row line s (mark_by (page_in v s).entry (is_given_in line v s))) c.section.ensures.wish)
    c.loop-s.invariant

use Rattle.std.proofs.Common.{◌∙◌, ap, Some, sym}
use Rattle.std.specs.List.{slice_get}
use Rattle.rbc_line.proofs.layout.Line.copied.Goals as goal
use Rattle.rbc_spec.specs.Line.{next_centre, start}

pub with_centre_tables-requires-clause-starts : goal.with_centre_tables-requires-clause-starts
with_centre_tables-requires-clause-starts c = λ s row at.
    c.self.invariant.starts s row (ap (λ rows. slice_get rows s) (sym c.in_ok-rows.ensures.sections) ∙ at)
    ∙ ap (λ line. start line s) (sym c.in_ok-rows.ensures.line)

pub with_centre_tables-requires-clause-nexts : goal.with_centre_tables-requires-clause-nexts
with_centre_tables-requires-clause-nexts c = λ a k in_a in_k.
    c.self.invariant.nexts a k in_a in_k ∙ ap (λ line. Some (next_centre line a k)) (sym c.in_ok-rows.ensures.line)

use Rattle.std.proofs.Common.{◌∙◌, ap, refl}
use Rattle.std.specs.List.{slice_get}
use Rattle.rbc_line.proofs.layout.Line.section.Goals as goal
use Rattle.rbc_line.proofs.Rows.{row_ends}

pub returns-clause-bound : goal.returns-clause-bound
returns-clause-bound c =
    row_ends _ c.self.inside.rows.sections.items c.args.s _ c.self.invariant.rules refl c.self.invariant.starts
    (c.item.ensures ∙ ap (λ rows. slice_get rows c.args.s) c.deref.ensures.value)

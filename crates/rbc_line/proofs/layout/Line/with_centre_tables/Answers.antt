use Rattle.std.proofs.Common.{◌*◌, ◌+◌, ◌==◌, ◌∙◌, sym}
use Rattle.rbc_line.proofs.layout.Line.with_centre_tables.Goals as goal
use Rattle.rbc_line.proofs.Lists.{All-unmap, AreDistinct-unmap, position-map}
use Rattle.rbc_line.proofs.Rows.{InRange}
use Rattle.rbc_line.specs.Views.{line_of_rows, section_of}

pub groups_of-requires-clause-range : goal.groups_of-requires-clause-range
groups_of-requires-clause-range c =
    rw c.deref.ensures.value
    (λ k d h.
    (All-unmap (InRange (line_of_rows c.args.rows)) section_of c.args.rows.sections.items
    c.requires.line.ranges.sections k d h).4)

pub groups_of-requires-clause-apart : goal.groups_of-requires-clause-apart
groups_of-requires-clause-apart c =
    rw c.deref.ensures.value
    (AreDistinct-unmap (λ p. p.balise) section_of c.args.rows.sections.items c.requires.line.distinct.balises)

pub invariant_of-result : goal.invariant_of-result
invariant_of-result c = record {
  rules = c.requires.line;
  starts = c.requires.starts;
  groups = λ q. (rw c.deref.ensures.value at c.in_ok-groups.ensures) q
      ∙ sym (position-map (λ p. c.args.rows.nid_c * 16384 + p.balise == q) section_of c.args.rows.sections.items);
  nexts = c.requires.nexts;
}

use Rattle.std.proofs.Common.{◌≡◌, drop, map}
use Rattle.rbc_line.proofs.read.read_sections.Given as goal
use Rattle.rbc_line.proofs.ReadSteps.{joined}
use Rattle.rbc_line.specs.DraftViews.{section_view}
use Rattle.rbc_line.specs.LineFile.{each_of, file_section}
use Rattle.toml.specs.View.{items_view}

abbrev pub invariant-loop-item : goal.invariant-loop-item
invariant-loop-item l =
    each_of (file_section l.fn.track) (items_view l.items)
    ≡ joined (map section_view l.sections.items)
    (each_of (file_section l.fn.track) (items_view (drop l.item-index l.items)))

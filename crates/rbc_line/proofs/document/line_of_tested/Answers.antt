use Rattle.std.proofs.Common.{subst}
use Rattle.rbc_line.proofs.document.line_of_tested.Goals as goal
use Rattle.rbc_line.proofs.DraftLine.{ascending, at_order, consecutive, no_order_fault, none_at_all, order_fault}
use Rattle.rbc_line.proofs.DraftLine.{own_starts, sections_same}
use Rattle.rbc_line.proofs.Sound.{sound, tested}
use Rattle.rbc_line.specs.DraftViews.{file_view}
use Rattle.rbc_line.specs.Homes.{IsSplit, IsUnsplit}
use Rattle.rbc_line.specs.LineFile.{line_of}
use Rattle.rbc_line.specs.Views.{line_of_rows}
use Rattle.rbc_spec.specs.Line.{HasConsecutiveHomes}

pub rows_of-requires-clause-tested : goal.rows_of-requires-clause-tested
rows_of-requires-clause-tested c = tested (file_view c.args.draft.now) c.requires.none

pub has_split_home-requires : goal.has_split_home-requires
has_split_home-requires c =
    rw c.deref.ensures.value
    (ascending (file_view c.args.draft.now) c.in_ok-rows.rows.sections.items
    (sections_same c.in_ok-rows.rows (file_view c.args.draft.now) c.in_ok-rows.ensures.line) c.requires.order)

pub returns-then-has_split_home-clause-fault : goal.returns-then-has_split_home-clause-fault
returns-then-has_split_home-clause-fault c = λ _.
    let file = file_view c.args.draft.now in
    let split : IsSplit c.in_ok-rows.rows.sections.items = rw c.deref.ensures.value at c.if-has_split_home.ensures in
    at_order file c.requires.none
    (order_fault file c.in_ok-rows.rows.sections.items (tested file c.requires.none)
    (sections_same c.in_ok-rows.rows file c.in_ok-rows.ensures.line) split)

pub with_tables-requires-clause-line : goal.with_tables-requires-clause-line
with_tables-requires-clause-line c =
    let unsplit : IsUnsplit c.in_ok-rows.rows.sections.items =
    rw c.deref.ensures.value at c.if-has_split_home.ensures in
    sound (file_view c.args.draft.now) (line_of_rows c.in_ok-rows.rows) c.requires.none c.requires.order
    c.in_ok-rows.ensures.line (consecutive c.in_ok-rows.rows unsplit)

pub with_tables-requires-clause-starts : goal.with_tables-requires-clause-starts
with_tables-requires-clause-starts c = own_starts c.in_ok-rows.rows c.in_ok-rows.ensures.starts

pub returns-clause-sound : goal.returns-clause-sound
returns-clause-sound c =
    let file = file_view c.args.draft.now in
    let unsplit : IsUnsplit c.in_ok-rows.rows.sections.items =
    rw c.deref.ensures.value at c.if-has_split_home.ensures in
    let homes : HasConsecutiveHomes (line_of file) =
    subst HasConsecutiveHomes c.in_ok-rows.ensures.line (consecutive c.in_ok-rows.rows unsplit) in
    none_at_all file c.requires.none (no_order_fault file (tested file c.requires.none) homes)

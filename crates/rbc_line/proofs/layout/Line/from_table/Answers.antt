use Rattle.std.proofs.Common.{◌≡◌, Some, sym}
use Rattle.rbc_line.proofs.layout.Line.from_table.Goals as goal
use Rattle.rbc_line.proofs.Numbered.{file_ascends}
use Rattle.rbc_line.specs.DraftViews.{file_view}
use Rattle.rbc_line.specs.LineFile.{line_file}
use Rattle.toml.specs.View.{table_view}

pub line_of_draft-requires : goal.line_of_draft-requires
line_of_draft-requires c =
    let read : line_file (table_view c.args.table.now) ≡ Some (file_view c.in-Some.draft) =
    sym (rw c.in-Some.is at c.in_ok-draft.ensures) in
    file_ascends (table_view c.args.table.now) (file_view c.in-Some.draft) read

pub returns-clause-named : goal.returns-clause-named
returns-clause-named c =
    let read : line_file (table_view c.args.table.now) ≡ Some (file_view c.in-Some.draft) =
    sym (rw c.in-Some.is at c.in_ok-draft.ensures) in
    rw read c.in_ok-line.ensures.ok

pub returns-clause-sound : goal.returns-clause-sound
returns-clause-sound c =
    let read : line_file (table_view c.args.table.now) ≡ Some (file_view c.in-Some.draft) =
    sym (rw c.in-Some.is at c.in_ok-draft.ensures) in
    λ fault found. c.in_ok-line.ensures.sound fault (rw read at found)

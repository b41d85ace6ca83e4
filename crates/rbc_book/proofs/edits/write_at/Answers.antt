use Rattle.std.proofs.Common.{◌<◌, ◌≡◌, ◌≢◌, arith, length, rules}
use Rattle.rbc_book.proofs.edits.write_at.Goals as goal
use Rattle.rbc_book.proofs.Neighbours.{same_written}
use Rattle.rbc_book.proofs.Rows.{at_from, at_read, at_within, there}
use Rattle.rbc_book.specs.Edits.{Has, IsFirst, IsInner, IsLast, IsWhole}
use Rattle.rbc_book.specs.Runs.{run_page}

pub index-run-requires : goal.index-run-requires
index-run-requires c =
    let lt : c.args.i < length c.args.runs.now.items =
    at_within (Has c.args.s c.args.size) c.args.runs.now.items c.args.i c.requires.here in
    search rules

pub returns-then-eq-clause-written : goal.returns-then-eq-clause-written
returns-then-eq-clause-written c =
    let same : run_page c.index-run.result.now ≡ c.args.page = search rules in
    same_written c.args.s c.args.size c.args.i c.args.page c.args.runs.now.items c.index-run.result.now c.requires.order
    c.requires.apart c.requires.here
    (at_read c.args.runs.now.items c.args.i c.index-run.result.now
    (at_within (Has c.args.s c.args.size) c.args.runs.now.items c.args.i c.requires.here) c.index-run.ensures)
    same

pub write_whole-requires-clause-here : goal.write_whole-requires-clause-here
write_whole-requires-clause-here c =
    let it = there (Has c.args.s c.args.size) c.args.runs.now.items c.args.i c.index-run.result.now c.requires.order
    c.requires.here c.index-run.ensures in
    at_from (IsWhole c.args.s c.args.size) c.args.runs.now.items c.args.i c.index-run.result.now
    (omega (arith, it.is.0, it.is.1, c.if-run-size.true), c.if-run-size.true) it.at

pub write_first-requires-clause-here : goal.write_first-requires-clause-here
write_first-requires-clause-here c =
    let it = there (Has c.args.s c.args.size) c.args.runs.now.items c.args.i c.index-run.result.now c.requires.order
    c.requires.here c.index-run.ensures in
    let other : run_page c.index-run.result.now ≢ c.args.page = search rules in
    at_from (IsFirst c.args.s c.args.size c.args.page) c.args.runs.now.items c.args.i c.index-run.result.now
    (omega (arith, c.if-run-s.true), omega (arith, it.is.0, it.is.1, c.if-run-size.false), other) it.at

pub write_last-requires-clause-here : goal.write_last-requires-clause-here
write_last-requires-clause-here c =
    let it = there (Has c.args.s c.args.size) c.args.runs.now.items c.args.i c.index-run.result.now c.requires.order
    c.requires.here c.index-run.ensures in
    let other : run_page c.index-run.result.now ≢ c.args.page = search rules in
    at_from (IsLast c.args.s c.args.size c.args.page) c.args.runs.now.items c.args.i c.index-run.result.now (
      omega (arith, c.if-next_after-from.true, c.from-else-run-s.ensures, c.from.ensures, c.next_after.ensures),
      omega (arith, it.is.0, it.is.1, c.if-run-size.false),
      other,
    ) it.at

pub write_inside-requires-clause-here : goal.write_inside-requires-clause-here
write_inside-requires-clause-here c =
    let it = there (Has c.args.s c.args.size) c.args.runs.now.items c.args.i c.index-run.result.now c.requires.order
    c.requires.here c.index-run.ensures in
    let other : run_page c.index-run.result.now ≢ c.args.page = search rules in
    at_from (IsInner c.args.s c.args.size c.args.page) c.args.runs.now.items c.args.i c.index-run.result.now (
      omega (arith, it.is.0, c.if-run-s.false),
      omega (
        arith,
        it.is.1,
        c.if-next_after-from.false,
        c.from-else-run-s.ensures,
        c.from.ensures,
        c.next_after.ensures,
      ),
      other,
    ) it.at

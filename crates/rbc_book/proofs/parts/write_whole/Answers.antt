use Rattle.std.proofs.Common.{◌-◌, arith}
use Rattle.rbc_book.proofs.Alone.{turned_order, whole_after, whole_first}
use Rattle.rbc_book.proofs.Joins.{joined_order}
use Rattle.rbc_book.proofs.parts.write_whole.Goals as goal
use Rattle.rbc_book.proofs.Rows.{at_within}
use Rattle.rbc_book.specs.Edits.{IsWhole}

pub turn-requires : goal.turn-requires
turn-requires c = at_within (IsWhole c.args.s c.args.size) c.args.runs.now.items c.args.i c.requires.here

pub join-requires : goal.join-requires
join-requires c = turned_order c.args.s c.args.size c.args.i c.args.page c.args.runs.now.items c.turn.new.runs.items
    c.requires.here c.requires.order c.requires.apart c.turn.ensures.items

pub join-requires-then-i-gt0 : goal.join-requires-then-i-gt0
join-requires-then-i-gt0 c = joined_order c.args.i c.turn.new.runs.items c.join.new.runs.items c.join.ensures.joined
    (turned_order c.args.s c.args.size c.args.i c.args.page c.args.runs.now.items c.turn.new.runs.items c.requires.here
    c.requires.order c.requires.apart c.turn.ensures.items)

pub returns-then-i-gt0-clause-written : goal.returns-then-i-gt0-clause-written
returns-then-i-gt0-clause-written c = whole_after c.args.s c.args.size c.args.i c.args.page c.args.runs.now.items
    c.turn.new.runs.items c.requires.here c.requires.order c.requires.apart c.turn.ensures.items
    c.join.new.runs.items c.join-then-i-gt0.new.runs.items (c.args.i - 1) (omega (arith, c.if-i-gt0.true))
    c.join.ensures.joined c.join-then-i-gt0.ensures.joined

pub returns-else-i-gt0-clause-written : goal.returns-else-i-gt0-clause-written
returns-else-i-gt0-clause-written c = whole_first c.args.s c.args.size c.args.i c.args.page c.args.runs.now.items
    c.turn.new.runs.items c.requires.here c.requires.order c.requires.apart c.turn.ensures.items
    c.join.new.runs.items (omega (arith, c.if-i-gt0.false)) c.join.ensures.joined

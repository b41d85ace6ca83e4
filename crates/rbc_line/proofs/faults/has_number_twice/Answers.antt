use Rattle.std.proofs.Common.{rules}
use Rattle.std.proofs.lemmas.Int.{to_z-of_z}
use Rattle.std.specs.HashSet.{contains}
use Rattle.std.specs.Ordering.{int_eq}
use Rattle.rbc_line.proofs.faults.has_number_twice.Goals as goal
use Rattle.rbc_line.proofs.Twice.{number_new, number_seen}

pub returns-then-not-branch : goal.returns-then-not-branch
returns-then-not-branch c =
    number_seen c.args.numbers.now c.loop-number.number-index
    (contains int_eq c.loop-number.seen) _ _ c.loop-number-test.true c.loop-number.invariant.1
    c.in_ok-insert.ensures.added c.if-not-branch.true (search (rules, to_z-of_z))

pub loop-number-preserved : goal.loop-number-preserved
loop-number-preserved c =
    number_new c.args.numbers.now c.loop-number.number-index (contains int_eq c.loop-number.seen)
    (contains int_eq c.insert.new.self) _ _ c.loop-number-test.true c.loop-number.invariant c.in_ok-insert.ensures.added
    c.if-not-branch.false c.in_ok-insert.ensures.updates.0 (search (rules, to_z-of_z))

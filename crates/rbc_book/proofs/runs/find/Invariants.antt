use Rattle.std.proofs.Common.{◌-◌}
use Rattle.rbc_book.proofs.Rows.{IsSought}
use Rattle.rbc_book.proofs.runs.find.Given as goal

abbrev pub invariant-loop-low : goal.invariant-loop-low
invariant-loop-low l = IsSought l.runs l.s l.low l.high

abbrev pub decreases-loop-low : goal.decreases-loop-low
decreases-loop-low l = l.high - l.low

use Rattle.std.proofs.Common.{◌<◌, ◌≡◌, ◌≤◌, true, ℕ}
use Rattle.rbc_centre.proofs.returned.all_stay.Given as goal
use Rattle.rbc_spec.specs.Line.{is_home}

abbrev pub invariant-loop-s : goal.invariant-loop-s
invariant-loop-s l = (s : ℕ) → l.fn.sections.first ≤ s → s < l.s → is_home l.line l.centre s ≡ true

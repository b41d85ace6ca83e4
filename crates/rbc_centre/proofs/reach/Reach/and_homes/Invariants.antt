use Rattle.std.proofs.Common.{◌<◌, ◌≡◌, ◌≤◌, true, ℕ}
use Rattle.rbc_centre.proofs.reach.Reach.and_homes.Given as goal
use Rattle.rbc_centre.specs.Reached.{IsOutside}
use Rattle.rbc_spec.specs.Line.{is_home}

abbrev pub invariant-loop-s : goal.invariant-loop-s
invariant-loop-s l = record {
  keeps : (d : ℕ) → IsOutside l.reach d → IsOutside l.fn.self d;
  homes : (d s : ℕ) → IsOutside l.reach d → l.fn.sections.first ≤ s → s < l.s → is_home l.line d s ≡ true
      → d ≡ l.centre;
}

use Rattle.std.proofs.Common.{◌<◌, ◌≡◌, false, ℕ}
use Rattle.rbc_centre.proofs.reach.Reach.and_told.Given as goal
use Rattle.rbc_centre.specs.Reached.{IsOutside}
use Rattle.rbc_handover.specs.Expectations.{is_told}

abbrev pub invariant-loop-to : goal.invariant-loop-to
invariant-loop-to l = record {
  keeps : (d : ℕ) → IsOutside l.reach d → IsOutside l.fn.self d;
  told : (d : ℕ) → d < l.to → IsOutside l.reach d → is_told l.told d ≡ false;
}

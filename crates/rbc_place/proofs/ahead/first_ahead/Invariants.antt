use Rattle.std.proofs.Common.{◌-◌, ◌<◌, ◌≡◌, ◌≤◌, false, length, true, ℕ}
use Rattle.rbc_place.proofs.ahead.first_ahead.Given as goal
use Rattle.rbc_place.specs.Places.{is_in_rear}

abbrev pub invariant-loop-low : goal.invariant-loop-low
invariant-loop-low l =
    record {
      order : l.low ≤ l.high;
      bound : l.high ≤ length l.line.sections;
      in_rear : (s : ℕ) → s < l.low → is_in_rear l.line l.track l.rear s ≡ true;
      ahead : (s : ℕ) → l.high ≤ s → is_in_rear l.line l.track l.rear s ≡ false;
    }

abbrev pub decreases-loop-low : goal.decreases-loop-low
decreases-loop-low l = l.high - l.low

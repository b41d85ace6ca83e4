use Rattle.std.proofs.Common.{◌≡◌, false, take, ℤ}
use Rattle.std.specs.HashSet.{contains}
use Rattle.std.specs.List.{list_any}
use Rattle.std.specs.Ordering.{int_eq}
use Rattle.rbc_line.proofs.faults.has_number_twice.Given as goal
use Rattle.rbc_line.specs.Faults.{has_twice}

abbrev pub invariant-loop-number : goal.invariant-loop-number
invariant-loop-number l =
    (has_twice int_eq (take l.number-index l.numbers) ≡ false)
    × ((q : ℤ) → contains int_eq l.seen q ≡ list_any (λ x. int_eq x q) (take l.number-index l.numbers))

use Rattle.std.proofs.Common.{◌≡◌, false, map}
use Rattle.std.specs.List.{range_with_len}
use Rattle.serve_line.proofs.state.build_slots.slots_of.Given as goal
use Rattle.serve_line.specs.Building.{place_of}

abbrev pub invariant-loop-number : goal.invariant-loop-number
invariant-loop-number l =
    map place_of l.slots.items ≡ map (λ number. (number, false)) (range_with_len 0 l.number)

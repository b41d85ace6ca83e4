use Rattle.std.proofs.Common.{◌-◌, ◌≡◌, map, vec_len}
use Rattle.std.specs.List.{range_with_len}
use Rattle.serve_line.proofs.state.build_slots.ports_of.Given as goal
use Rattle.serve_line.specs.Building.{seats_at, seats_of}

abbrev pub invariant-loop-number : goal.invariant-loop-number
invariant-loop-number l = record {
  left : vec_len l.left ≡ vec_len l.initial.left - l.number;
  seats : map seats_of l.endpoints.items ≡ map (seats_at l.line l.nodes) (range_with_len 0 l.number);
}

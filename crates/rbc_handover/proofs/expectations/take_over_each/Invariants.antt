use Rattle.std.proofs.Common.{◌≡◌, length}
use Rattle.rbc_handover.proofs.expectations.take_over_each.Given as goal
use Rattle.rbc_handover.proofs.Expects.{by_states}
use Rattle.rbc_handover.proofs.TakesOver.{HasTold}

abbrev pub invariant-loop-i : goal.invariant-loop-i
invariant-loop-i l = record {
  count : length l.states.items ≡ length l.fn.states.items;
  room : length l.are_told ≡ 8;
  told : HasTold (by_states l.fn.states.items) (by_states l.states.items) l.i l.are_told;
}

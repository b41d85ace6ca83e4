use Rattle.std.proofs.Common.{◌≡◌, None, ℕ}
use Rattle.std.specs.Vec.{vec_capacity, vec_len}
use Rattle.rbc_handover.proofs.expectations.Expectations.new.Given as goal
use Rattle.rbc_handover.proofs.Expects.{by_states}
use Rattle.rbc_handover.specs.Expectations.{expected_from}

abbrev pub invariant-loop : goal.invariant-loop
invariant-loop l = record {
  len : vec_len l.states ≡ l.counter;
  room : vec_capacity l.states ≡ l.count;
  none : (d : ℕ) → expected_from (by_states l.states.items) d ≡ None;
}

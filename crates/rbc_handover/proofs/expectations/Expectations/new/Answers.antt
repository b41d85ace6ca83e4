use Rattle.std.proofs.Common.{◌∙◌, ap, arith}
use Rattle.rbc_handover.proofs.expectations.Expectations.new.Goals as goal
use Rattle.rbc_handover.proofs.Expects.{by_states, nothing_first, nothing_more}
use Rattle.rbc_handover.specs.Expectations.{expected_from}

pub loop-init : goal.loop-init
loop-init c = record {
  len = c.in_ok-states.ensures.len;
  room = c.in_ok-states.ensures.exact;
  none = nothing_first c.in_ok-states.states.items c.in_ok-states.ensures.items;
}

pub loop-preserved : goal.loop-preserved
loop-preserved c = record {
  len = omega (arith, c.push_reserved.ensures.len, c.loop.invariant.len);
  room = omega (arith, c.push_reserved.ensures.capacity, c.loop.invariant.room);
  none = λ d. ap (λ xs. expected_from (by_states xs) d) c.push_reserved.ensures.items
      ∙ nothing_more c.loop.states.items c.loop.invariant.none d;
}

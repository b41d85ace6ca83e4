use Rattle.std.proofs.Common.{◌+◌, ◌-◌, ◌/◌, ◌∙◌, arith, sym}
use Rattle.rbc_place.proofs.ahead.first_ahead.Goals as goal
use Rattle.rbc_place.proofs.CoveredSections.{ahead_after, ahead_past, in_rear_before}

pub loop-low-init : goal.loop-low-init
loop-low-init c =
    record {
      order = omega arith;
      bound = omega (arith, c.section_count-high.ensures.value);
      in_rear = λ s lt. absurd (omega arith);
      ahead =
          λ s le. ahead_past c.args.line.now c.args.track c.args.rear s
          (omega (arith, c.section_count-high.ensures.value));
    }

-- the middle section is in rear, and so are those before it
pub loop-low-preserved-then-is_in_rear : goal.loop-low-preserved-then-is_in_rear
loop-low-preserved-then-is_in_rear c =
    let middle = c.loop-low.low + (c.loop-low.high - c.loop-low.low) / 2 in
    record {
      order = omega (arith, c.loop-low-test.true);
      bound = c.loop-low.invariant.bound;
      in_rear =
          λ s lt. in_rear_before c.args.line.now c.section_count-high.ensures.line c.args.track c.args.rear s middle
          (omega arith) (sym c.is_in_rear.ensures ∙ c.if-is_in_rear.true);
      ahead = c.loop-low.invariant.ahead;
    }

-- the middle section is ahead, and so are those after it
pub loop-low-preserved : goal.loop-low-preserved
loop-low-preserved c =
    let middle = c.loop-low.low + (c.loop-low.high - c.loop-low.low) / 2 in
    record {
      order = omega (arith, c.loop-low-test.true);
      bound = omega (arith, c.loop-low-test.true, c.loop-low.invariant.bound);
      in_rear = c.loop-low.invariant.in_rear;
      ahead =
          λ s le. ahead_after c.args.line.now c.section_count-high.ensures.line c.args.track c.args.rear middle s le
          (sym c.is_in_rear.ensures ∙ c.if-is_in_rear.false);
    }

pub returns-clause-bound : goal.returns-clause-bound
returns-clause-bound c = omega (arith, c.loop-low.invariant.order, c.loop-low.invariant.bound)

pub returns-clause-in_rear : goal.returns-clause-in_rear
returns-clause-in_rear c = c.loop-low.invariant.in_rear

pub returns-clause-ahead : goal.returns-clause-ahead
returns-clause-ahead c = λ s le. c.loop-low.invariant.ahead s (omega (arith, c.loop-low-test.false))

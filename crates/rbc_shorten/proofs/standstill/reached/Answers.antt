use Rattle.std.proofs.Common.{◌+◌, ◌∙◌, arith, sym}
use Rattle.rbc_place.proofs.Longest.{all_passed, one_more, stops}
use Rattle.rbc_shorten.proofs.standstill.reached.Goals as goal
use Rattle.rbc_shorten.specs.Standstill.{begins_before}

pub returns-then-not-is_reached-clause-value : goal.returns-then-not-is_reached-clause-value
returns-then-not-is_reached-clause-value c =
    stops (begins_before c.args.line.now c.args.front) c.args.hand.first c.args.hand.count c.loop-k.k
    (c.from.result + c.from-in-loop-k.result) (omega (arith, c.from.ensures, c.from-in-loop-k.ensures))
    (sym c.is_reached.ensures ∙ c.if-not-is_reached.true) c.loop-k.invariant

pub loop-k-preserved : goal.loop-k-preserved
loop-k-preserved c =
    one_more (begins_before c.args.line.now c.args.front) c.args.hand.first c.args.hand.count c.loop-k.k
    (c.from.result + c.from-in-loop-k.result) c.loop-k-test.true
    (omega (arith, c.from.ensures, c.from-in-loop-k.ensures))
    (sym c.is_reached.ensures ∙ c.if-not-is_reached.false) c.loop-k.invariant

pub returns-clause-value : goal.returns-clause-value
returns-clause-value c =
    all_passed (begins_before c.args.line.now c.args.front) c.args.hand.first c.args.hand.count c.loop-k.k
    (omega arith) c.loop-k.invariant

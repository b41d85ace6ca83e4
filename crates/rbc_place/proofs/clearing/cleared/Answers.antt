use Rattle.std.proofs.Common.{◌+◌, ◌∙◌, arith, sym}
use Rattle.rbc_place.proofs.clearing.cleared.Goals as goal
use Rattle.rbc_place.proofs.Longest.{all_passed, one_more, stops}
use Rattle.rbc_place.specs.Places.{place_of}
use Rattle.rbc_spec.specs.Place as spec

pub returns-then-not-is_cleared-clause-value : goal.returns-then-not-is_cleared-clause-value
returns-then-not-is_cleared-clause-value c =
    stops (spec.is_cleared c.args.line.now (place_of c.args.place.now)) c.args.hand.first c.args.hand.count c.loop-k.k
    (c.from.result + c.from-in-loop-k.result) (omega (arith, c.from.ensures, c.from-in-loop-k.ensures))
    (sym c.is_cleared.ensures ∙ c.if-not-is_cleared.true) c.loop-k.invariant

pub loop-k-preserved : goal.loop-k-preserved
loop-k-preserved c =
    one_more (spec.is_cleared c.args.line.now (place_of c.args.place.now)) c.args.hand.first c.args.hand.count
    c.loop-k.k (c.from.result + c.from-in-loop-k.result) c.loop-k-test.true
    (omega (arith, c.from.ensures, c.from-in-loop-k.ensures))
    (sym c.is_cleared.ensures ∙ c.if-not-is_cleared.false) c.loop-k.invariant

pub returns-clause-value : goal.returns-clause-value
returns-clause-value c =
    all_passed (spec.is_cleared c.args.line.now (place_of c.args.place.now)) c.args.hand.first c.args.hand.count
    c.loop-k.k (omega arith) c.loop-k.invariant

use Rattle.std.proofs.Common.{◌+◌, ◌∙◌, arith, sym}
use Rattle.rbc_border.proofs.homes.stretch.Goals as goal
use Rattle.rbc_border.proofs.Lists.{all_passed, stops}
use Rattle.rbc_border.specs.Homes.{is_of}

pub returns-then-not-is_of : goal.returns-then-not-is_of
returns-then-not-is_of c =
    stops (is_of c.args.line.now c.args.home c.args.track) c.args.first c.args.most c.loop-k.k
    (c.from.result + c.from-in-loop-k.result)
    (omega (arith, c.from.ensures, c.from-in-loop-k.ensures)) c.loop-k-test.true
    (sym c.is_of.ensures.value ∙ c.if-not-is_of.true) c.loop-k.invariant

pub returns : goal.returns
returns c =
    all_passed (is_of c.args.line.now c.args.home c.args.track) c.args.first c.args.most c.loop-k.k
    (omega arith) c.loop-k-test.false c.loop-k.invariant

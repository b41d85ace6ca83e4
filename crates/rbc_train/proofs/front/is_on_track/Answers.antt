use Rattle.std.proofs.Common.{◌∙◌, ap, arith, sym}
use Rattle.rbc_spec.specs.Sections.{is_on}
use Rattle.rbc_train.proofs.front.is_on_track.Goals as goal
use Rattle.rbc_train.proofs.Runs.{all_each, all_fails}

pub returns-then-not-is_on : goal.returns-then-not-is_on
returns-then-not-is_on c =
    let at = c.from.ensures in
    let of = c.from-in-loop-k.ensures in
    sym (all_fails (is_on c.args.line.now c.args.track) c.args.run.count c.args.run.first c.loop-k.k c.loop-k-test.true
    (ap (is_on c.args.line.now c.args.track) (omega (arith, at, of)) ∙ sym c.is_on.ensures ∙ c.if-not-is_on.true))

pub returns : goal.returns
returns c =
    let past = c.loop-k-test.false in
    sym (all_each (is_on c.args.line.now c.args.track) c.args.run.count c.args.run.first
    (λ j few. c.loop-k.invariant j (omega (arith, past, few))))

use Rattle.std.proofs.Common.{◌∙◌, ap, arith, sym}
use Rattle.rbc_spec.specs.Centre.{is_free}
use Rattle.rbc_train.proofs.Runs.{all_each, all_fails}
use Rattle.rbc_train.proofs.starting.are_free.Goals as goal

pub returns-then-not-is_free : goal.returns-then-not-is_free
returns-then-not-is_free c = λ k pages.
    let at = c.from.ensures in
    let of = c.from-in-loop-k.ensures in
    sym (all_fails (is_free c.args.line.now c.args.centre k) c.args.run.count c.args.run.first c.loop-k.k
    c.loop-k-test.true
    (ap (is_free c.args.line.now c.args.centre k) (omega (arith, at, of)) ∙ sym (c.is_free.ensures k pages)
    ∙ c.if-not-is_free.true))

pub returns : goal.returns
returns c = λ k pages.
    let past = c.loop-k-test.false in
    sym (all_each (is_free c.args.line.now c.args.centre k) c.args.run.count c.args.run.first
    (λ j few. c.loop-k.invariant k pages j (omega (arith, past, few))))

use Rattle.std.proofs.Common.{◌∙◌, ◌≡◌, arith, false, refl, sym, true}
use Rattle.rbc_node.proofs.Gathered.{all_more, all_of, not_all}
use Rattle.rbc_node.proofs.gathering.all_take_sent.Goals as goal
use Rattle.rbc_node.specs.Sent.{TakesSent}

pub loop-log-preserved : goal.loop-log-preserved
loop-log-preserved c =
    all_more (TakesSent c.args.logs.now) c.args.logs.now c.loop-log.log-index c.log-item.result c.loop-log-test.true
    c.log-item.is c.loop-log.invariant (c.takes_sent.ensures.0 c.if-not-takes_sent.false)

pub returns-then-not-takes_sent : goal.returns-then-not-takes_sent
returns-then-not-takes_sent c = (
  λ h. absurd cc,
  λ h. absurd (not_all (TakesSent c.args.logs.now) c.args.logs.now c.loop-log.log-index c.log-item.result
      c.loop-log-test.true c.log-item.is
      (λ takes. let wrong : true ≡ false = sym (c.takes_sent.ensures.1 takes) ∙ c.if-not-takes_sent.true in absurd cc)
      h),
)

pub returns : goal.returns
returns c = (
  λ _. all_of (TakesSent c.args.logs.now) c.args.logs.now c.loop-log.log-index
      (omega (arith, c.loop-log-test.false)) c.loop-log.invariant,
  λ _. refl,
)

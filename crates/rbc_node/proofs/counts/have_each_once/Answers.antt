use Rattle.std.proofs.Common.{arith, refl}
use Rattle.rbc_log.proofs.Copied.{on_err}
use Rattle.rbc_node.proofs.counts.have_each_once.Goals as goal
use Rattle.rbc_node.proofs.Gathered.{all_more, all_of, some_entry_of}
use Rattle.rbc_node.specs.Gather.{HasEachOnce}

pub loop-log-preserved : goal.loop-log-preserved
loop-log-preserved c =
    all_more (HasEachOnce c.args.shares.now) c.args.logs.now c.loop-log.log-index c.log-item.result c.loop-log-test.true
    c.log-item.is c.loop-log.invariant
    (c.in_ok-has_each_once.ensures.exact.0 c.if-not-branch.false)

pub returns-clause-exact : goal.returns-clause-exact
returns-clause-exact c = (
  λ _. all_of (HasEachOnce c.args.shares.now) c.args.logs.now c.loop-log.log-index
      (omega (arith, c.loop-log-test.false)) c.loop-log.invariant,
  λ _. refl,
)

pub returns-in_err-has_each_once-clause-memory : goal.returns-in_err-has_each_once-clause-memory
returns-in_err-has_each_once-clause-memory c =
    on_err c.from_residual.result
    (some_entry_of c.args.logs.now c.loop-log.log-index c.log-item.result c.loop-log-test.true c.log-item.is
    c.in_err-has_each_once.ensures.memory)

use Rattle.std.proofs.Common.{◌+◌, ap, refl, subst, ℕ}
use Rattle.rbc_watch.proofs.Verdicts.{begins, breaks, ends, goes_on}
use Rattle.rbc_watch.proofs.watch.watch_all.Goals as goal
use Rattle.rbc_watch.specs.Events.{sees_exchange}
use Rattle.rbc_watch.specs.Seen.{line_of, seen_by}
use Rattle.rbc_watch.specs.Verdicts.{IsBreach}

pub loop-exchange-init : goal.loop-exchange-init
loop-exchange-init c = (
  begins c.args.line.now c.args.exchanges.now c.in_ok-watch.watch c.in_ok-watch.ensures.line c.in_ok-watch.ensures.seen,
  refl,
)

pub loop-exchange-preserved : goal.loop-exchange-preserved
loop-exchange-preserved c = (
  goes_on c.args.line.now c.args.exchanges.now c.loop-exchange.watch c.in-Ok.next c.loop-exchange.exchange-index
      c.exchange-item.result c.loop-exchange-test.true c.exchange-item.is c.loop-exchange.invariant.0
      c.in-Ok.ensures.line c.in-Ok.ensures.seen c.in-Ok.ensures.safe,
  ap (λ (n : ℕ). n + 1) c.loop-exchange.invariant.1,
)

pub returns-in-Err : goal.returns-in-Err
returns-in-Err c =
    let w = c.loop-exchange.watch in
    breaks (Unit {0}) c.args.line.now c.args.exchanges.now w c.loop-exchange.exchange-index c.exchange-item.result
    c.in-Err.breach c.loop-exchange-test.true c.exchange-item.is c.loop-exchange.invariant.0
    (subst
    (λ (n : ℕ). IsBreach (line_of w) n (sees_exchange (line_of w) c.exchange-item.result (seen_by w)) c.in-Err.breach)
    c.loop-exchange.invariant.1 c.in-Err.ensures.broken)

pub returns : goal.returns
returns c =
    ends c.args.line.now c.args.exchanges.now c.loop-exchange.watch c.loop-exchange.exchange-index
    c.loop-exchange-test.false c.loop-exchange.invariant.0

use Rattle.std.proofs.Common.{◌∙◌, ap, sym}
use Rattle.rbc_board.proofs.queue.QueueCarrierCarrier.get.Goals as goal
use Rattle.rbc_board.proofs.Steps.{found-keeps, found-none, found-other}
use Rattle.rbc_board.specs.InStep.{found}

pub returns-then-number-clause-some : goal.returns-then-number-clause-some
returns-then-number-clause-some g c =
    ap (found c.args.number) c.in_ok-frame.ensures.some
    ∙ found-none c.args.number c.in_ok-frame.frame c.loop.seen.known.items c.loop.invariant.2
    (sym c.number.ensures.value ∙ c.if-number.true)

pub returns-then-number-clause-keeps : goal.returns-then-number-clause-keeps
returns-then-number-clause-keeps g c n f e =
    ap (found n) c.in_ok-frame.ensures.some
    ∙ found-keeps n f c.in_ok-frame.frame c.loop.seen.known.items (c.loop.invariant.1 n f e)

pub loop-preserved : goal.loop-preserved
loop-preserved g c = (
  c.take_one.ensures.link,
  (λ n f e. ap (found n) c.in_ok-frame.ensures.some
      ∙ found-keeps n f c.in_ok-frame.frame c.loop.seen.known.items (c.loop.invariant.1 n f e)),
  ap (found c.args.number) c.in_ok-frame.ensures.some
      ∙ found-other c.args.number c.in_ok-frame.frame c.loop.seen.known.items c.loop.invariant.2
      (λ e. c.if-number.false (c.number.ensures.value ∙ e)),
  c.take_one.ensures.reader,
)

use Rattle.std.proofs.Common.{◌∙◌, ap, not, sym, true}
use Rattle.rbc_pending_start.proofs.waiting_start.WaitingStart.start.Goals as goal
use Rattle.rbc_pending_start.proofs.Waits.{starts}
use Rattle.rbc_pending_start.specs.Waits.{asking, WaitState, with_wait}
use Rattle.rbc_place.specs.Places.{place_of}

pub returns-clause-exact : goal.returns-clause-exact
returns-clause-exact c centre k has =
    starts c.args.line.now centre k c.args.self.now c.args.book.now c.begin.new.book
    (place_of c.args.place) has c.begin.ensures.book
    ∙ (λ i. asking c.args.line.now c.args.self.now.engine
    (sym (c.ask.ensures.answer ∙ ap (λ (w : WaitState). not w.has_asked) c.begin.ensures.waits) i)
    (with_wait (sym (c.ask.ensures.state ∙ ap (λ (w : WaitState). record w { has_asked = true }) c.begin.ensures.waits)
    i) c.begin.new.book k))

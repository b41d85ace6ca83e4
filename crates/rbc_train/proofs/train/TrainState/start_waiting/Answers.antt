use Rattle.std.proofs.Common.{◌∙◌, ap, None, option_map, sym, ℕ}
use Rattle.rbc_linkmsg.specs.declared.body.Body.TheVariants as code
use Rattle.rbc_pending_start.specs.Waits.{asks, WaitState}
use Rattle.rbc_place.specs.Places.{place_of}
use Rattle.rbc_spec.specs.Line.{registrar}
use Rattle.rbc_train.proofs.Desk.{has_waiting}
use Rattle.rbc_train.proofs.Starts.{sends_ask, waits}
use Rattle.rbc_train.proofs.train.TrainState.start_waiting.Goals as goal

pub returns-then-not-start-clause-exact : goal.returns-then-not-start-clause-exact
returns-then-not-start-clause-exact c = λ n rights k has.
    let line = c.args.line.now in
    let old = c.args.self.now in
    let book = c.args.book.now in
    waits line n k old book rights has (place_of c.args.place) c.start.new.self c.start.new.book c.start.result None
    (ap (λ (x : WaitState). x.engine) c.start.ensures.waits)
    (c.start.ensures.exact n k (has_waiting line n k old book rights has))
    (ap (asks line old.supervision.engine) (sym c.if-not-start.true))

pub returns-clause-exact : goal.returns-clause-exact
returns-clause-exact c = λ n rights k has.
    let line = c.args.line.now in
    let old = c.args.self.now in
    let book = c.args.book.now in
    let letter = c.to_registrar.result in
    waits line n k old book rights has (place_of c.args.place) c.start.new.self c.start.new.book c.start.result letter
    (ap (λ (x : WaitState). x.engine) c.start.ensures.waits)
    (c.start.ensures.exact n k (has_waiting line n k old book rights has))
    (sends_ask line n k old book rights has letter
    (c.to_registrar.ensures
    ∙ ap (λ (e : ℕ). option_map (λ (r : ℕ). record { to = r; body = code.AskRight e }) (registrar line e))
    c.nid_engine-engine.ensures) ∙ ap (asks line old.supervision.engine) (sym c.if-not-start.false))

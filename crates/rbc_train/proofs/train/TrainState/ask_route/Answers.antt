use Rattle.std.proofs.Common.{[], ◌∙◌, ap, option_map, Some, sym, ℕ}
use Rattle.rbc_border.specs.Lending.{sending}
use Rattle.rbc_linkmsg.specs.declared.body.Body.TheVariants as code
use Rattle.rbc_mission.specs.Supervisions.{with_supervision}
use Rattle.rbc_spec.specs.Frame.{RouteAsk}
use Rattle.rbc_train.proofs.train.TrainState.ask_route.Goals as goal
use Rattle.rbc_train.specs.Desk.{posted, replied}
use Rattle.rbc_train.specs.Letters.{letters}

pub returns-clause-exact : goal.returns-clause-exact
returns-clause-exact c = λ k has.
    let t = c.args.self.now.supervision.engine in
    c.ask.ensures.exact k has
    ∙ ap (λ o. sending c.args.next (option_map (λ q. RouteAsk t q.first q.most) o) (with_supervision c.ask.new.self k))
    c.in-Some.is
    ∙ ap
    (λ (e : ℕ).
    posted
    (letters
    (Some (record { to = c.args.next; body = code.RouteAsk e c.in-Some.question.first c.in-Some.question.most })))
    (replied (with_supervision c.ask.new.self k) [] [])) (sym c.nid_engine-engine.ensures)

use Rattle.std.proofs.Common.{◌∙◌, ap, arith, length, sym}
use Rattle.std.proofs.lemmas.Bool.{ltb-true}
use Rattle.rbc_train.proofs.Kept.{still_held}
use Rattle.rbc_train.proofs.Received.{returned_range, takes_announcement, takes_ask, takes_back, takes_cancellation}
use Rattle.rbc_train.proofs.Received.{takes_claim, takes_refusal, takes_return, takes_right, takes_route}
use Rattle.rbc_train.proofs.Received.{takes_route_ask, takes_withdrawal, takes_yield, told_range, yielded_range}
use Rattle.rbc_train.proofs.train.TrainState.receive.Goals as goal
use Rattle.rbc_train.specs.declared.train.TrainState.{TrainState}
use Rattle.rbc_train.specs.Desk.{reply_left, with_parts}

pub returns-in-AskRight-clause-exact : goal.returns-in-AskRight-clause-exact
returns-in-AskRight-clause-exact c = λ k has known.
    takes_ask c.args.line.now c.args.centre c.args.from c.args.self.now.supervision.engine k c.args.body _
    c.requires.engine known _ c.in-AskRight.is (c.right_asked.ensures.exact c.args.book.now k has)

pub returns-in-GiveRight-clause-exact : goal.returns-in-GiveRight-clause-exact
returns-in-GiveRight-clause-exact c = λ k has known.
    takes_right c.args.line.now c.args.centre c.args.from c.args.self.now.supervision.engine k c.args.body _
    c.requires.engine known _ c.in-GiveRight.is (c.right_given.ensures.exact c.args.book.now k has)

pub returns-in-RefuseRight-clause-exact : goal.returns-in-RefuseRight-clause-exact
returns-in-RefuseRight-clause-exact c = λ k has known.
    takes_refusal c.args.line.now c.args.centre c.args.from c.args.self.now.supervision.engine k c.args.body _
    c.requires.engine known _ c.in-RefuseRight.is
    (c.right_refused.ensures.exact c.args.line.now c.args.centre c.args.registrar.now k has)

pub returns-in-ReturnRight-clause-exact : goal.returns-in-ReturnRight-clause-exact
returns-in-ReturnRight-clause-exact c = λ k has known.
    takes_back c.args.line.now c.args.centre c.args.from c.args.self.now.supervision.engine k c.args.body _
    c.requires.engine known _ c.in-ReturnRight.is
    (c.right_returned.ensures.exact c.args.book.now k has
    ∙ ap (reply_left c.args.line.now c.args.centre c.args.self.now.supervision.engine
    (with_parts c.right_returned.new.self c.args.book.now c.right_returned.new.registrar k)) (sym c.nothing.ensures))

pub route_told-requires-clause-few : goal.route_told-requires-clause-few
route_told-requires-clause-few c =
    (told_range c.args.body _ c.in-RouteInfo.run' c.in-RouteInfo.is c.requires.range).count.1

pub route_returned-requires-clause-range : goal.route_returned-requires-clause-range
route_returned-requires-clause-range c =
    returned_range c.args.body _ c.in-RouteReturn.run' c.in-RouteReturn.is c.requires.range

pub returns-in-RouteAsk-clause-exact : goal.returns-in-RouteAsk-clause-exact
returns-in-RouteAsk-clause-exact c = λ k has known.
    takes_route_ask c.args.line.now c.args.centre c.args.from c.args.self.now.supervision.engine k c.args.body _
    c.requires.engine known _ c.in-RouteAsk.first c.in-RouteAsk.most c.in-RouteAsk.is
    (c.route_asked.ensures.exact c.args.registrar.now k has)

pub returns-in-RouteInfo-clause-exact : goal.returns-in-RouteInfo-clause-exact
returns-in-RouteInfo-clause-exact c = λ k has known.
    takes_route c.args.line.now c.args.centre c.args.from c.args.self.now.supervision.engine k c.args.body _
    c.requires.engine known _ c.in-RouteInfo.run' c.in-RouteInfo.is
    (c.route_told.ensures.exact c.args.centre c.args.book.now c.args.registrar.now k has)

pub returns-in-RouteWithdraw-clause-exact : goal.returns-in-RouteWithdraw-clause-exact
returns-in-RouteWithdraw-clause-exact c = λ k has known.
    takes_withdrawal c.args.line.now c.args.centre c.args.from c.args.self.now.supervision.engine k c.args.body _
    c.requires.engine known _ c.in-RouteWithdraw.section c.in-RouteWithdraw.is
    (c.route_withdrawn.ensures.exact c.args.centre c.args.book.now c.args.registrar.now k has)

pub returns-in-RouteReturn-clause-exact : goal.returns-in-RouteReturn-clause-exact
returns-in-RouteReturn-clause-exact c = λ k has known.
    takes_return c.args.line.now c.args.centre c.args.from c.args.self.now.supervision.engine k c.args.body _
    c.requires.engine known _ c.in-RouteReturn.run' c.in-RouteReturn.is
    (c.route_returned.ensures.exact c.args.registrar.now k has)

pub announced-requires : goal.announced-requires
announced-requires c = let count = c.requires.expected in
    let within = ltb-true c.args.from (length c.args.line.now.centres) c.requires.from in omega (arith, count, within)

pub yielded-requires-clause-place : goal.yielded-requires-clause-place
yielded-requires-clause-place c = (yielded_range c.args.body _ _ c.in-Yield.yielding c.in-Yield.is c.requires.range).0

pub yielded-requires-clause-hand : goal.yielded-requires-clause-hand
yielded-requires-clause-hand c = (yielded_range c.args.body _ _ c.in-Yield.yielding c.in-Yield.is c.requires.range).1

pub returns-in-Announce-clause-exact : goal.returns-in-Announce-clause-exact
returns-in-Announce-clause-exact c = λ k has known.
    takes_announcement c.args.line.now c.args.centre c.args.from c.args.self.now.supervision.engine k c.args.body _
    c.requires.engine known c.in-Announce.handover _ c.in-Announce.track c.in-Announce.is
    (c.announced.ensures.exact c.args.centre c.args.book.now c.args.registrar.now k has
    ∙ ap (reply_left c.args.line.now c.args.centre c.args.self.now.supervision.engine
    (with_parts c.announced.new.self c.args.book.now c.args.registrar.now k)) (sym c.nothing.ensures))

pub returns-in-Cancel-clause-exact : goal.returns-in-Cancel-clause-exact
returns-in-Cancel-clause-exact c = λ k has known.
    takes_cancellation c.args.line.now c.args.centre c.args.from c.args.self.now.supervision.engine k c.args.body _
    c.requires.engine known c.in-Cancel.handover _ c.in-Cancel.is
    (c.cancelled.ensures.exact c.args.line.now c.args.centre c.args.book.now c.args.registrar.now k has
    ∙ ap (reply_left c.args.line.now c.args.centre c.args.self.now.supervision.engine
    (with_parts c.cancelled.new.self c.args.book.now c.args.registrar.now k)) (sym c.nothing.ensures))

pub returns-in-TakingOver-clause-exact : goal.returns-in-TakingOver-clause-exact
returns-in-TakingOver-clause-exact c = λ k has known.
    takes_claim c.args.line.now c.args.centre c.args.from c.args.self.now.supervision.engine k c.args.body _
    c.requires.engine known c.in-TakingOver.handover _ c.in-TakingOver.is
    (c.taking_over.ensures.exact c.args.registrar.now k has)

pub returns-in-Yield-clause-exact : goal.returns-in-Yield-clause-exact
returns-in-Yield-clause-exact c = λ k has known.
    takes_yield c.args.line.now c.args.centre c.args.from c.args.self.now.supervision.engine k c.args.body _
    c.requires.engine known c.in-Yield.handover _ c.in-Yield.yielding c.in-Yield.is
    (c.yielded.ensures.exact k has)

pub returns-in-Announce-clause-held : goal.returns-in-Announce-clause-held
returns-in-Announce-clause-held c =
    still_held c.args.line.now c.args.centre c.args.self.now c.announced.new.self
    (ap (λ (p : TrainState). p.supervision.engine) c.announced.ensures.same)
    (ap (λ (p : TrainState). p.supervision.hand) c.announced.ensures.same) c.requires.held

pub returns-in-Cancel-clause-held : goal.returns-in-Cancel-clause-held
returns-in-Cancel-clause-held c =
    still_held c.args.line.now c.args.centre c.args.self.now c.cancelled.new.self
    (ap (λ (p : TrainState). p.supervision.engine) c.cancelled.ensures.same)
    (ap (λ (p : TrainState). p.supervision.hand) c.cancelled.ensures.same) c.requires.held

pub returns-in-AskRight-clause-held : goal.returns-in-AskRight-clause-held
returns-in-AskRight-clause-held c =
    still_held c.args.line.now c.args.centre c.args.self.now c.right_asked.new.self
    (ap (λ (p : TrainState). p.supervision.engine) c.right_asked.ensures.same)
    (ap (λ (p : TrainState). p.supervision.hand) c.right_asked.ensures.same) c.requires.held

pub returns-in-RefuseRight-clause-held : goal.returns-in-RefuseRight-clause-held
returns-in-RefuseRight-clause-held c =
    still_held c.args.line.now c.args.centre c.args.self.now c.right_refused.new.self
    (ap (λ (p : TrainState). p.supervision.engine) c.right_refused.ensures.left)
    (ap (λ (p : TrainState). p.supervision.hand) c.right_refused.ensures.left) c.requires.held

pub returns-in-ReturnRight-clause-held : goal.returns-in-ReturnRight-clause-held
returns-in-ReturnRight-clause-held c =
    still_held c.args.line.now c.args.centre c.args.self.now c.right_returned.new.self
    (ap (λ (p : TrainState). p.supervision.engine) c.right_returned.ensures.same)
    (ap (λ (p : TrainState). p.supervision.hand) c.right_returned.ensures.same) c.requires.held

pub returns-in-RouteInfo-clause-held : goal.returns-in-RouteInfo-clause-held
returns-in-RouteInfo-clause-held c =
    still_held c.args.line.now c.args.centre c.args.self.now c.route_told.new.self
    (ap (λ (p : TrainState). p.supervision.engine) c.route_told.ensures.left)
    (ap (λ (p : TrainState). p.supervision.hand) c.route_told.ensures.left) c.requires.held

pub returns-in-RouteWithdraw-clause-held : goal.returns-in-RouteWithdraw-clause-held
returns-in-RouteWithdraw-clause-held c =
    still_held c.args.line.now c.args.centre c.args.self.now c.route_withdrawn.new.self
    (ap (λ (p : TrainState). p.supervision.engine) c.route_withdrawn.ensures.left)
    (ap (λ (p : TrainState). p.supervision.hand) c.route_withdrawn.ensures.left) c.requires.held

pub returns-in-RouteReturn-clause-held : goal.returns-in-RouteReturn-clause-held
returns-in-RouteReturn-clause-held c =
    still_held c.args.line.now c.args.centre c.args.self.now c.route_returned.new.self
    (ap (λ (p : TrainState). p.supervision.engine) c.route_returned.ensures.says.left)
    (ap (λ (p : TrainState). p.supervision.hand) c.route_returned.ensures.says.left) c.requires.held

use Rattle.std.proofs.Common.{◌∙◌, ◌≡◌, ap, deque_capacity, subst, sym}
use Rattle.rbc_hand.proofs.Ends.{back_own, cuts_back, CutsBack}
use Rattle.rbc_hand.proofs.Grows.{rest_own}
use Rattle.rbc_hand.proofs.hand.Hand.cut_back.Goals as goal
use Rattle.rbc_hand.specs.Hands.{back, IsAllOwn}

cuts : (c : goal.After-pop_back) → CutsBack c.self.inside.first c.self.inside.tokens.items c.pop_back.new.self.items
    (deque_capacity c.pop_back.new.self) c.pop_back.result
cuts c = cuts_back c.self.inside.first c.self.inside.tokens.items c.pop_back.new.self.items _ c.pop_back.result _ _
    c.pop_back.ensures.items (rw c.pop_back.ensures.capacity c.self.invariant) (c.self.inside.tokens.ok.0)
    c.pop_back.ensures.cases

token_is : (c : goal.After-pop_back) → c.pop_back.result ≡ back c.args.self.now
token_is c = (cuts c).token ∙ ap back c.self.view_is

pub invariant_of-self : goal.invariant_of-self
invariant_of-self c = (cuts c).hand

pub returns-clause-token : goal.returns-clause-token
returns-clause-token = token_is

pub returns-clause-own : goal.returns-clause-own
returns-clause-own c t = back_own c.args.self.now t c.pop_back.result (token_is c)

pub returns-clause-rest_own : goal.returns-clause-rest_own
returns-clause-rest_own c t all =
    rest_own t c.self.inside.first c.self.inside.tokens.items c.pop_back.new.self.items c.pop_back.result
    c.pop_back.ensures.items (subst (IsAllOwn t) (sym c.self.view_is) all)

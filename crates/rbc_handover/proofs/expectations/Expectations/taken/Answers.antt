use Rattle.std.proofs.Common.{◌<◌, ◌≡◌, ◌≤◌, arith, length, None, refl, set, ℕ}
use Rattle.rbc_handover.proofs.expectations.Expectations.taken.Goals as goal
use Rattle.rbc_handover.proofs.Expects.{by_states, changed, expects_now, none_changed, past_states}
use Rattle.rbc_handover.specs.Expectations.{expected_from}
use Rattle.rbc_spec.specs.Maps.{put}

past : (c : goal.Then-from-len) → length c.args.self.now ≤ c.args.from
past c =
    past_states c.self.inside.states.items c.args.self.now c.args.from c.self.view_is
    (omega (arith, c.if-from-len.true, c.len.ensures, c.self.inside.states.ok.0))

unchanged : (c : goal.Then-from-len) (d : ℕ)
    → expected_from c.args.self.now d ≡ put (expected_from c.args.self.now) c.args.from None d
unchanged c = none_changed c.args.self.now c.args.from None (past c) refl

pub returns-then-from-len-clause-expected : goal.returns-then-from-len-clause-expected
returns-then-from-len-clause-expected c = unchanged c

pub returns-then-from-len-clause-exact : goal.returns-then-from-len-clause-exact
returns-then-from-len-clause-exact c line t k has =
    expects_now line t k c.args.self.now c.args.self.now has c.args.from None (unchanged c)

expected : (c : goal.After-self-1) (d : ℕ)
    → expected_from (by_states (set c.self.inside.states.items c.args.from c.forget.new.self)) d
    ≡ put (expected_from c.args.self.now) c.args.from None d
expected c d =
    let within : c.args.from < length c.self.inside.states.items =
    omega (arith, c.if-from-len.false, c.len.ensures, c.self.inside.states.ok.0) in
    rw (← c.self.view_is)
    (changed c.self.inside.states.items c.args.from c.index_mut.result.now c.forget.new.self within
    c.index_mut.ensures.value
    (λ o. None) c.forget.ensures d)

pub returns-clause-expected : goal.returns-clause-expected
returns-clause-expected c = expected c

pub returns-clause-exact : goal.returns-clause-exact
returns-clause-exact c line t k has =
    expects_now line t k c.args.self.now
    (by_states (set c.self.inside.states.items c.args.from c.forget.new.self)) has c.args.from None (expected c)

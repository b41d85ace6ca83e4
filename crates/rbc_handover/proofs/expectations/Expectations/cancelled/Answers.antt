use Rattle.std.proofs.Common.{◌<◌, ◌≡◌, ◌≤◌, ap, arith, length, set, ℕ}
use Rattle.rbc_handover.proofs.expectations.Expectations.cancelled.Goals as goal
use Rattle.rbc_handover.proofs.Expects.{by_states, cancels, changed, expected_past, none_changed, past_states}
use Rattle.rbc_handover.specs.Expectations.{ended_under, expected_from}
use Rattle.rbc_spec.specs.Maps.{put}

past : (c : goal.Then-from-len) → length c.args.self.now ≤ c.args.from
past c =
    past_states c.self.inside.states.items c.args.self.now c.args.from c.self.view_is
    (omega (arith, c.if-from-len.true, c.len.ensures, c.self.inside.states.ok.0))

unchanged : (c : goal.Then-from-len) (d : ℕ)
    → expected_from c.args.self.now d
    ≡ put (expected_from c.args.self.now) c.args.from
    (ended_under c.args.number (expected_from c.args.self.now c.args.from)) d
unchanged c =
    none_changed c.args.self.now c.args.from (ended_under c.args.number (expected_from c.args.self.now c.args.from))
    (past c) (ap (ended_under c.args.number) (expected_past c.args.self.now c.args.from (past c)))

pub returns-then-from-len-clause-expected : goal.returns-then-from-len-clause-expected
returns-then-from-len-clause-expected c = unchanged c

pub returns-then-from-len-clause-exact : goal.returns-then-from-len-clause-exact
returns-then-from-len-clause-exact c line t k has =
    cancels line t k c.args.self.now c.args.self.now has c.args.from c.args.number (unchanged c)

expected : (c : goal.After-self-1) (d : ℕ)
    → expected_from (by_states (set c.self.inside.states.items c.args.from c.cancelled.new.self)) d
    ≡ put (expected_from c.args.self.now) c.args.from
    (ended_under c.args.number (expected_from c.args.self.now c.args.from)) d
expected c d =
    let within : c.args.from < length c.self.inside.states.items =
    omega (arith, c.if-from-len.false, c.len.ensures, c.self.inside.states.ok.0) in
    rw (← c.self.view_is)
    (changed c.self.inside.states.items c.args.from c.index_mut.result.now c.cancelled.new.self within
    c.index_mut.ensures.value
    (ended_under c.args.number) c.cancelled.ensures d)

pub returns-clause-expected : goal.returns-clause-expected
returns-clause-expected c = expected c

pub returns-clause-exact : goal.returns-clause-exact
returns-clause-exact c line t k has =
    cancels line t k c.args.self.now (by_states (set c.self.inside.states.items c.args.from c.cancelled.new.self)) has
    c.args.from c.args.number (expected c)

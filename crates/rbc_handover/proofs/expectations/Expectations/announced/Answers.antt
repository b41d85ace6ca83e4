use Rattle.std.proofs.Common.{◌≡◌, set, ℕ}
use Rattle.rbc_handover.proofs.expectations.Expectations.announced.Goals as goal
use Rattle.rbc_handover.proofs.Expects.{announces, by_states, changed, within_states}
use Rattle.rbc_handover.specs.Expectations.{announced_as, expected_from}
use Rattle.rbc_spec.specs.Maps.{put}

expected : (c : goal.After-self-1) (d : ℕ)
    → expected_from (by_states (set c.self.inside.states.items c.args.from c.announced.new.self)) d
    ≡ put (expected_from c.args.self.now) c.args.from
    (announced_as c.args.number (expected_from c.args.self.now c.args.from)) d
expected c d =
    rw (← c.self.view_is) (changed c.self.inside.states.items c.args.from c.index_mut.result.now c.announced.new.self
    (within_states c.self.inside.states.items c.args.self.now c.args.from c.self.view_is c.requires)
    c.index_mut.ensures.value
    (announced_as c.args.number) c.announced.ensures d)

pub returns-clause-expected : goal.returns-clause-expected
returns-clause-expected c = expected c

pub returns-clause-exact : goal.returns-clause-exact
returns-clause-exact c line t k has =
    announces line t k c.args.self.now (by_states (set c.self.inside.states.items c.args.from c.announced.new.self)) has
    c.args.from c.args.number (expected c)

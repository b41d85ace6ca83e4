use Rattle.std.proofs.Common.{◌<◌, ◌∙◌, ◌≤◌, ap, arith, length, option_map, subst, sym, ℕ}
use Rattle.rbc_world.proofs.Firsts.{found_here, found_later, found_nowhere, from_none}
use Rattle.rbc_world.proofs.world.World.mission_sent.Goals as goal
use Rattle.rbc_world.specs.Missions.{carried_between}
use Rattle.rbc_world.specs.View.{held_shown}
use Rattle.rbc_world.specs.World.{line_of, state_of}

pub loop-to-init : goal.loop-to-init
loop-to-init c = let w = c.args.self.now in
    from_none (carried_between (state_of w) c.args.nid_engine c.args.from) (length (line_of w).centres)

pub mission_between-requires-clause-to : goal.mission_between-requires-clause-to
mission_between-requires-clause-to c =
    let w = c.args.self.now in
    let within : c.loop-to.to < length (line_of w).centres =
    subst (λ (n : ℕ). c.loop-to.to < n) c.centre_count-to-end.ensures.value c.loop-to-test.true in
    subst (λ (n : ℕ). c.loop-to.to < n) (sym w.each_centre) within

pub returns-in-Some : goal.returns-in-Some
returns-in-Some c =
    let w = c.args.self.now in
    let within : c.loop-to.to < length (line_of w).centres =
    subst (λ (n : ℕ). c.loop-to.to < n) c.centre_count-to-end.ensures.value c.loop-to-test.true in
    let here = sym c.mission_between.ensures ∙ ap (option_map held_shown) c.in-Some.is in
    sym (c.loop-to.invariant ∙ found_here (carried_between (state_of w) c.args.nid_engine c.args.from) c.loop-to.to
    (length (line_of w).centres) (held_shown c.in-Some.mission) within here)

pub loop-to-preserved : goal.loop-to-preserved
loop-to-preserved c =
    let w = c.args.self.now in
    let within : c.loop-to.to < length (line_of w).centres =
    subst (λ (n : ℕ). c.loop-to.to < n) c.centre_count-to-end.ensures.value c.loop-to-test.true in
    let away = sym c.mission_between.ensures ∙ ap (option_map held_shown) c.in_default.is in
    c.loop-to.invariant ∙ found_later (carried_between (state_of w) c.args.nid_engine c.args.from) c.loop-to.to
    (length (line_of w).centres) within away

pub returns : goal.returns
returns c =
    let w = c.args.self.now in
    let past : length (line_of w).centres ≤ c.loop-to.to =
    omega (arith, c.loop-to-test.false, c.centre_count-to-end.ensures.value) in
    sym (c.loop-to.invariant ∙ found_nowhere (carried_between (state_of w) c.args.nid_engine c.args.from) c.loop-to.to
    (length (line_of w).centres) past)

use Rattle.std.proofs.Common.{◌<◌, ◌∙◌, ◌≤◌, ap, arith, length, option_map, subst, sym, ℕ}
use Rattle.rbc_world.proofs.Firsts.{found_here, found_later, found_nowhere, from_none}
use Rattle.rbc_world.proofs.Shown.{on_way_is}
use Rattle.rbc_world.proofs.world.World.mission_on_the_way.Goals as goal
use Rattle.rbc_world.specs.Missions.{carried_from}
use Rattle.rbc_world.specs.View.{held_shown}
use Rattle.rbc_world.specs.World.{line_of, state_of}

pub loop-from-init : goal.loop-from-init
loop-from-init c =
    let w = c.args.self.now in
    on_way_is (line_of w) (state_of w) c.args.nid_engine
    ∙ from_none (carried_from (line_of w) (state_of w) c.args.nid_engine) (length (line_of w).centres)

pub mission_sent-requires : goal.mission_sent-requires
mission_sent-requires c =
    let w = c.args.self.now in
    let within : c.loop-from.from < length (line_of w).centres =
    subst (λ (n : ℕ). c.loop-from.from < n) c.centre_count-from-end.ensures.value c.loop-from-test.true in
    subst (λ (n : ℕ). c.loop-from.from < n) (sym w.each_centre) within

pub returns-in-Some : goal.returns-in-Some
returns-in-Some c =
    let w = c.args.self.now in
    let within : c.loop-from.from < length (line_of w).centres =
    subst (λ (n : ℕ). c.loop-from.from < n) c.centre_count-from-end.ensures.value c.loop-from-test.true in
    let here = sym c.mission_sent.ensures ∙ ap (option_map held_shown) c.in-Some.is in
    sym (c.loop-from.invariant ∙ found_here (carried_from (line_of w) (state_of w) c.args.nid_engine) c.loop-from.from
    (length (line_of w).centres) (held_shown c.in-Some.mission) within here)

pub loop-from-preserved : goal.loop-from-preserved
loop-from-preserved c =
    let w = c.args.self.now in
    let within : c.loop-from.from < length (line_of w).centres =
    subst (λ (n : ℕ). c.loop-from.from < n) c.centre_count-from-end.ensures.value c.loop-from-test.true in
    let away = sym c.mission_sent.ensures ∙ ap (option_map held_shown) c.in_default.is in
    c.loop-from.invariant ∙ found_later (carried_from (line_of w) (state_of w) c.args.nid_engine) c.loop-from.from
    (length (line_of w).centres) within away

pub returns : goal.returns
returns c =
    let w = c.args.self.now in
    let past : length (line_of w).centres ≤ c.loop-from.from =
    omega (arith, c.loop-from-test.false, c.centre_count-from-end.ensures.value) in
    sym (c.loop-from.invariant ∙ found_nowhere (carried_from (line_of w) (state_of w) c.args.nid_engine)
    c.loop-from.from (length (line_of w).centres) past)

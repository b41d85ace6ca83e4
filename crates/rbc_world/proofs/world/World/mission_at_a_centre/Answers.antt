use Rattle.std.proofs.Common.{◌<◌, ◌∙◌, ◌≤◌, ap, arith, length, option_map, subst, sym, ℕ}
use Rattle.rbc_spec.specs.ReadOff.{held_at}
use Rattle.rbc_world.proofs.Firsts.{found_here, found_later, found_nowhere, from_none}
use Rattle.rbc_world.proofs.world.World.mission_at_a_centre.Goals as goal
use Rattle.rbc_world.specs.View.{held_shown}
use Rattle.rbc_world.specs.World.{line_of, state_of}

pub loop-c-init : goal.loop-c-init
loop-c-init c = let w = c.args.self.now in
    from_none (held_at (state_of w) c.args.nid_engine) (length (line_of w).centres)

pub mission_at-requires : goal.mission_at-requires
mission_at-requires c =
    let w = c.args.self.now in
    let within : c.loop-c.c < length (line_of w).centres =
    subst (λ (n : ℕ). c.loop-c.c < n) c.centre_count-c-end.ensures.value c.loop-c-test.true in
    subst (λ (n : ℕ). c.loop-c.c < n) (sym w.each_centre) within

pub returns-in-Some : goal.returns-in-Some
returns-in-Some c =
    let w = c.args.self.now in
    let within : c.loop-c.c < length (line_of w).centres =
    subst (λ (n : ℕ). c.loop-c.c < n) c.centre_count-c-end.ensures.value c.loop-c-test.true in
    let here = sym c.mission_at.ensures ∙ ap (option_map held_shown) c.in-Some.is in
    sym (c.loop-c.invariant ∙ found_here (held_at (state_of w) c.args.nid_engine) c.loop-c.c
    (length (line_of w).centres) (held_shown c.in-Some.mission) within here)

pub loop-c-preserved : goal.loop-c-preserved
loop-c-preserved c =
    let w = c.args.self.now in
    let within : c.loop-c.c < length (line_of w).centres =
    subst (λ (n : ℕ). c.loop-c.c < n) c.centre_count-c-end.ensures.value c.loop-c-test.true in
    let away = sym c.mission_at.ensures ∙ ap (option_map held_shown) c.in_default.is in
    c.loop-c.invariant ∙ found_later (held_at (state_of w) c.args.nid_engine) c.loop-c.c
    (length (line_of w).centres) within away

pub returns : goal.returns
returns c =
    let w = c.args.self.now in
    let past : length (line_of w).centres ≤ c.loop-c.c =
    omega (arith, c.loop-c-test.false, c.centre_count-c-end.ensures.value) in
    sym (c.loop-c.invariant ∙ found_nowhere (held_at (state_of w) c.args.nid_engine) c.loop-c.c
    (length (line_of w).centres) past)

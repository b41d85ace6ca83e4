use Rattle.std.proofs.Common.{◌<◌, ◌∙◌, ◌≡◌, ◌≤◌, ap, arith, drop, get_or, length, List, option_and_then, option_map}
use Rattle.std.proofs.Common.{refl, slice_get, Some, subst, sym, ℕ}
use Rattle.std.proofs.lemmas.Option.{slice_get_read}
use Rattle.rbc_centre.specs.declared.centre.Centre.{Centre}
use Rattle.rbc_centre.specs.States as one
use Rattle.rbc_spec.specs.Centre as centre
use Rattle.rbc_spec.specs.Frame.{Frame}
use Rattle.rbc_spec.specs.ReadOff.{handed_over}
use Rattle.rbc_world.proofs.Firsts.{given_here, given_later, given_nowhere}
use Rattle.rbc_world.proofs.Shown.{next_number, seen_at}
use Rattle.rbc_world.proofs.world.World.mission_between.Goals as goal
use Rattle.rbc_world.specs.declared.world.World.{World}
use Rattle.rbc_world.specs.Missions.{first_given}
use Rattle.rbc_world.specs.View.{held_shown}
use Rattle.rbc_world.specs.World.{state_of}

-- a value read at a centre of the world
read_of : {X : Type 0} (w : World) (part : centre.Centre → X) (c : ℕ) (k : Centre) → c < length w.centres.items
    → k ≡ get_or w.centres.items c k → part (one.state_of k) ≡ part ((state_of w).at c)
read_of w part c k within is =
    seen_at w.line w.centres.items w.trains.keys c part k (slice_get_read _ _ _ _ refl within is)

pub loop-before-init : goal.loop-before-init
loop-before-init c =
    ap (λ (n : ℕ). first_given (λ (f : Frame). handed_over c.args.nid_engine f.body)
    (drop n (((state_of c.args.self.now).at c.args.from).sent c.args.to)))
    (sym (c.taken-taken.ensures ∙ read_of c.args.self.now (λ k. k.taken c.args.from) c.args.to c.index.result.now
    c.requires.to c.index.ensures))

pub returns-in-Some : goal.returns-in-Some
returns-in-Some c =
    let frames : List Frame = ((state_of c.args.self.now).at c.args.from).sent c.args.to in
    let sent : c.sent-sent.result ≡ length frames = c.sent-sent.ensures
    ∙ read_of c.args.self.now (λ k. length (k.sent c.args.to)) c.args.from c.index-2.result.now c.requires.from
    c.index-2.ensures in
    let within : c.loop-before.before < length frames =
    subst (λ (n : ℕ). c.loop-before.before < n) sent c.loop-before-test.true in
    let here : option_and_then (λ (f : Frame). handed_over c.args.nid_engine f.body)
    (slice_get frames c.loop-before.before) ≡ Some (held_shown c.in-Some.mission) =
    ap (option_and_then (λ (f : Frame). handed_over c.args.nid_engine f.body))
    (sym (next_number frames c.loop-before.before)) ∙ sym c.mission_in.ensures
    ∙ ap (option_map held_shown) c.in-Some.is in
    sym (c.loop-before.invariant ∙ given_here (λ (f : Frame). handed_over c.args.nid_engine f.body) frames
    c.loop-before.before (held_shown c.in-Some.mission) within here)

pub loop-before-preserved : goal.loop-before-preserved
loop-before-preserved c =
    let frames : List Frame = ((state_of c.args.self.now).at c.args.from).sent c.args.to in
    let sent : c.sent-sent.result ≡ length frames = c.sent-sent.ensures
    ∙ read_of c.args.self.now (λ k. length (k.sent c.args.to)) c.args.from c.index-2.result.now c.requires.from
    c.index-2.ensures in
    let within : c.loop-before.before < length frames =
    subst (λ (n : ℕ). c.loop-before.before < n) sent c.loop-before-test.true in
    let away = ap (option_and_then (λ (f : Frame). handed_over c.args.nid_engine f.body))
    (sym (next_number frames c.loop-before.before)) ∙ sym c.mission_in.ensures
    ∙ ap (option_map held_shown) c.in_default.is in
    c.loop-before.invariant ∙ given_later (λ (f : Frame). handed_over c.args.nid_engine f.body) frames
    c.loop-before.before within away

pub returns : goal.returns
returns c =
    let frames : List Frame = ((state_of c.args.self.now).at c.args.from).sent c.args.to in
    let sent : c.sent-sent.result ≡ length frames = c.sent-sent.ensures
    ∙ read_of c.args.self.now (λ k. length (k.sent c.args.to)) c.args.from c.index-2.result.now c.requires.from
    c.index-2.ensures in
    let past : length frames ≤ c.loop-before.before = omega (arith, c.loop-before-test.false, sent) in
    sym (c.loop-before.invariant ∙ given_nowhere (λ (f : Frame). handed_over c.args.nid_engine f.body) frames
    c.loop-before.before past)

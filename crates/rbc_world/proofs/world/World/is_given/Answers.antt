use Rattle.std.proofs.Common.{◌<◌, ◌∙◌, ◌≡◌, ap, length, refl, rules, slice_get, Some, sym}
use Rattle.std.proofs.lemmas.Option.{slice_get_read}
use Rattle.rbc_spec.specs.Maps.{has}
use Rattle.rbc_spec.specs.ReadOff.{Held, held}
use Rattle.rbc_spec.specs.SectionRuns.{within}
use Rattle.rbc_world.proofs.Known.{world_missions}
use Rattle.rbc_world.proofs.Shown.{engine_at, none_held}
use Rattle.rbc_world.proofs.world.World.is_given.Goals as goal
use Rattle.rbc_world.specs.World.{line_of, state_of}

pub returns-in-Some : goal.returns-in-Some
returns-in-Some c =
    let w = c.args.self.now in
    let inside : c.in-Some.i < length c.args.trains.now = search rules in
    let at : slice_get c.args.trains.now c.in-Some.i ≡ Some c.index-trains-i.result =
    slice_get_read _ _ _ _ refl inside c.index-trains-i.is in
    let train = c.requires.each c.in-Some.i c.index-trains-i.result at in
    let same = engine_at (line_of w) c.args.nid_engine c.in-Some.i c.index-trains-i.result.nid_engine
    (sym c.train_number.ensures.value ∙ c.in-Some.is) train.engine in
    c.has.ensures ∙ ap (has (λ (h : Held). within h.hand c.args.s))
    (train.mission ∙ ap (held (line_of w) (state_of w)) same)

pub returns-in-None : goal.returns-in-None
returns-in-None c =
    let w = c.args.self.now in
    let missions = world_missions (line_of w) (state_of w) c.known_line.ensures w.reached in
    ap (has (λ (h : Held). within h.hand c.args.s))
    (sym (none_held (line_of w) (state_of w) c.args.nid_engine missions
    (sym c.train_number.ensures.value ∙ c.in-None.is)))

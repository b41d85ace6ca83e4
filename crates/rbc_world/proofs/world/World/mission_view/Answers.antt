use Rattle.std.proofs.Common.{◌∙◌, ◌≡◌, ap, None, Option, option_map, Some, sym}
use Rattle.std.specs.Option.{option_or}
use Rattle.law_reached.specs.Seen.{yielded_on_way}
use Rattle.rbc_spec.specs.ReadOff.{Held}
use Rattle.rbc_world.proofs.Shown.{held_is}
use Rattle.rbc_world.proofs.world.World.mission_view.Goals as goal
use Rattle.rbc_world.specs.Missions.{held_by_a_centre}
use Rattle.rbc_world.specs.View.{held_shown}
use Rattle.rbc_world.specs.World.{line_of, state_of}

pub returns-in-Some : goal.returns-in-Some
returns-in-Some c =
    let w = c.args.self.now in
    let t = c.args.nid_engine in
    let here : held_by_a_centre (line_of w) (state_of w) t ≡ Some (held_shown c.in-Some.mission) =
    sym c.mission_at_a_centre.ensures ∙ ap (option_map held_shown) c.in-Some.is in
    sym (held_is (line_of w) (state_of w) t ∙ ap
    (λ (o : Option Held). option_or o (yielded_on_way (line_of w) (state_of w) t)) here)

pub returns-in-None : goal.returns-in-None
returns-in-None c =
    let w = c.args.self.now in
    let t = c.args.nid_engine in
    let none : held_by_a_centre (line_of w) (state_of w) t ≡ None =
    sym c.mission_at_a_centre.ensures ∙ ap (option_map held_shown) c.in-None.is in
    c.mission_on_the_way.ensures
    ∙ sym (held_is (line_of w) (state_of w) t
    ∙ ap (λ (o : Option Held). option_or o (yielded_on_way (line_of w) (state_of w) t)) none)

use Rattle.std.proofs.Common.{map}
use Rattle.rbc_world.proofs.Loop.{ends_forced, ends_read, is_line_run, is_one_centre_run, is_refused, is_safe_outside}
use Rattle.rbc_world.proofs.Loop.{is_sound, names_trains}
use Rattle.rbc_world.proofs.Outside.{all_spoken}
use Rattle.rbc_world.proofs.world.World.run.Goals as goal
use Rattle.rbc_world.specs.Views.{answer_of, event_of, spoken_by}
use Rattle.rbc_world.specs.World.{state_of}

pub returns-clause-run : goal.returns-clause-run
returns-clause-run c =
    is_line_run c.args.line.now (map event_of c.args.events.now) (λ o. map answer_of o.answers.items)
    (λ o. state_of o.world) c.known_line.ensures c.outputs.result c.outputs.ensures

pub returns-clause-outside : goal.returns-clause-outside
returns-clause-outside c =
    is_safe_outside c.args.line.now (map event_of c.args.events.now) (λ o. map answer_of o.answers.items)
    (λ o. state_of o.world) c.known_line.ensures
    (λ o. map spoken_by o.answers.items) (λ o. all_spoken o.answers.items) c.outputs.result c.outputs.ensures

pub returns-clause-sound : goal.returns-clause-sound
returns-clause-sound c =
    is_sound c.args.line.now (map event_of c.args.events.now) (λ o. map answer_of o.answers.items)
    (λ o. state_of o.world) c.known_line.ensures c.outputs.result c.outputs.ensures

pub returns-clause-last : goal.returns-clause-last
returns-clause-last c =
    ends_read c.args.line.now (map event_of c.args.events.now) (λ o. map answer_of o.answers.items)
    (λ o. state_of o.world) c.known_line.ensures c.outputs.result c.outputs.ensures

pub returns-clause-one_centre : goal.returns-clause-one_centre
returns-clause-one_centre c d one =
    is_one_centre_run c.args.line.now (map event_of c.args.events.now) (λ o. map answer_of o.answers.items)
    (λ o. state_of o.world) c.known_line.ensures d one c.outputs.result c.outputs.ensures

pub returns-clause-one_centre_last : goal.returns-clause-one_centre_last
returns-clause-one_centre_last c d one =
    ends_forced c.args.line.now (map event_of c.args.events.now) (λ o. map answer_of o.answers.items)
    (λ o. state_of o.world) c.known_line.ensures d one c.outputs.result c.outputs.ensures

pub returns-clause-trains : goal.returns-clause-trains
returns-clause-trains c =
    names_trains c.args.line.now (map event_of c.args.events.now) (λ o. map answer_of o.answers.items)
    (λ o. state_of o.world) c.outputs.result c.outputs.ensures

pub returns-clause-refused : goal.returns-clause-refused
returns-clause-refused c =
    is_refused c.args.line.now (map event_of c.args.events.now) (λ o. map answer_of o.answers.items)
    (λ o. state_of o.world) c.outputs.result c.outputs.ensures

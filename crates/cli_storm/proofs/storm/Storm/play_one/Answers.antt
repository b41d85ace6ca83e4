use Rattle.std.proofs.Common.{ap}
use Rattle.std.proofs.lemmas.Result.{err_from_is_err_and}
use Rattle.cli_storm.proofs.Playing.{event_fails, event_then, shown}
use Rattle.cli_storm.proofs.storm.Storm.play_one.Goals as goal
use Rattle.text_script.specs.rbc_world.World.{line_of, state_of}

pub returns-in_err-take-in-Event-clause-told : goal.returns-in_err-take-in-Event-clause-told
returns-in_err-take-in-Event-clause-told g c =
    let old = c.args.self.now in
    let p = err_from_is_err_and c.from_residual.result c.from_residual.ensures.1 in
    rw (c.in-Event.is)
    (rw (p.1, p.2) (event_fails g.T.Observer.tells (line_of old.world) c.in-Event.event (state_of old.world)
    (state_of c.take.new.self.world) c.args.observer.now c.take.new.observer old.draws.x c.take.new.self.draws.x
    c.in_err-take-in-Event.field-0.0 c.in_err-take-in-Event.ensures.told))

pub returns-in-Show-clause-told : goal.returns-in-Show-clause-told
returns-in-Show-clause-told g c =
    let old = c.args.self.now in
    rw (c.in-Show.is) (shown g.T.Observer.tells (line_of old.world) (state_of old.world)
    (state_of c.show.new.self.world) c.args.observer.now c.show.new.observer old.draws.x c.show.new.self.draws.x
    (ap (λ s. state_of s.world) c.show.ensures.same) (ap (λ s. s.draws.x) c.show.ensures.same) c.show.result
    c.show.ensures.told)

pub returns-in_ok-take-in-Event-clause-told : goal.returns-in_ok-take-in-Event-clause-told
returns-in_ok-take-in-Event-clause-told g c =
    let old = c.args.self.now in
    let it = c.in_ok-take-in-Event.ensures in
    rw (c.in-Event.is) (event_then g.T.Observer.tells (line_of old.world) (line_of c.take.new.self.world) it.line
    c.in-Event.event (state_of old.world) (state_of c.take.new.self.world) (state_of c.deliver.new.self.world)
    c.args.observer.now c.take.new.observer c.deliver.new.observer old.draws.x c.take.new.self.draws.x
    c.deliver.new.self.draws.x (ap (λ d. d.x) it.draws) it.left it.told c.deliver.result c.deliver.ensures.told)

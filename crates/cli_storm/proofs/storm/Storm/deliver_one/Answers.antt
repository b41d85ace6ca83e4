use Rattle.std.proofs.Common.{◌∙◌, ap, sym}
use Rattle.std.specs.List.{filter}
use Rattle.cli_storm.proofs.Playing.{delivered}
use Rattle.cli_storm.proofs.storm.Storm.deliver_one.Goals as goal
use Rattle.cli_storm.specs.Links.{delivery, has_sent}
use Rattle.text_script.specs.rbc_world.World.{line_of, state_of}

pub returns-in-Some-clause-told : goal.returns-in-Some-clause-told
returns-in-Some-clause-told g c =
    let old = c.args.self.now in
    delivered g.T.Observer.tells (line_of old.world) c.in-Some.event (state_of old.world)
    (state_of c.take.new.self.world) c.args.observer.now c.take.new.observer
    c.draw_delivery.new.draws.x c.take.new.self.draws.x _
    (sym (ap (λ o. (o, c.draw_delivery.new.draws.x)) c.in-Some.is) ∙ c.draw_delivery.ensures
    ∙ ap (λ ls. delivery (filter has_sent ls) old.draws.x) (c.deref.ensures.value ∙ old.counted))
    (ap (λ d. d.x) c.take.ensures.draws) c.take.result c.take.ensures.left c.take.ensures.told

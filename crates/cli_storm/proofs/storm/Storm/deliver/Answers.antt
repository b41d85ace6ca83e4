use Rattle.std.proofs.Common.{◌+◌, ◌-◌, ◌∙◌, ◌≡◌, arith, suc}
use Rattle.std.proofs.lemmas.Result.{err_from_is_err_and}
use Rattle.cli_storm.proofs.Playing.{all_delivered, delivery_fails, one_delivered}
use Rattle.cli_storm.proofs.storm.Storm.deliver.Goals as goal
use Rattle.cli_storm.specs.Storm.{deliveries}
use Rattle.text_script.specs.rbc_world.World.{line_of, state_of}

pub returns-in_err-deliver_one-clause-told : goal.returns-in_err-deliver_one-clause-told
returns-in_err-deliver_one-clause-told g c =
    let old = c.args.self.now in
    let p = err_from_is_err_and c.from_residual.result c.from_residual.ensures.1 in
    let count : 4 - c.loop.counter ≡ suc (4 - (c.loop.counter + 1)) = omega (arith, c.loop-test.true) in
    rw (p.1, p.2) (delivery_fails g.T.Observer.tells (line_of old.world) (line_of c.loop.self.world)
    c.loop.invariant.line (state_of old.world) c.args.observer.now (state_of c.loop.self.world)
    (state_of c.deliver_one.new.self.world)
    c.loop.observer c.deliver_one.new.observer c.loop.self.draws.x c.deliver_one.new.self.draws.x
    (deliveries 4 (line_of old.world) (state_of old.world) old.draws.x) (4 - c.loop.counter)
    (4 - (c.loop.counter + 1)) count
    c.loop.invariant.goes c.in_err-deliver_one.field-0.0 c.in_err-deliver_one.ensures.told)

pub loop-preserved : goal.loop-preserved
loop-preserved g c =
    let old = c.args.self.now in
    let count : 4 - c.loop.counter ≡ suc (4 - (c.loop.counter + 1)) = omega (arith, c.loop-test.true) in
    record {
      line = c.in_ok-deliver_one.ensures.line ∙ c.loop.invariant.line;
      goes =
          one_delivered g.T.Observer.tells (line_of old.world) (line_of c.loop.self.world) c.loop.invariant.line
          (state_of old.world) c.args.observer.now (state_of c.loop.self.world) (state_of c.deliver_one.new.self.world)
          c.loop.observer c.deliver_one.new.observer c.loop.self.draws.x c.deliver_one.new.self.draws.x
          (deliveries 4 (line_of old.world) (state_of old.world) old.draws.x) (4 - c.loop.counter)
          (4 - (c.loop.counter + 1)) count
          c.loop.invariant.goes c.in_ok-deliver_one.ensures.told;
    }

pub returns-clause-told : goal.returns-clause-told
returns-clause-told g c =
    let old = c.args.self.now in
    let none : 4 - c.loop.counter ≡ 0 = omega (arith, c.loop-test.false) in
    all_delivered g.T.Observer.tells (line_of old.world) (state_of old.world) (state_of c.loop.self.world)
    c.args.observer.now c.loop.observer c.loop.self.draws.x
    (deliveries 4 (line_of old.world) (state_of old.world) old.draws.x)
    (4 - c.loop.counter) none c.loop.invariant.goes

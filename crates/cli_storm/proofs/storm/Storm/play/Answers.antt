use Rattle.std.proofs.Common.{◌∙◌}
use Rattle.std.proofs.lemmas.Result.{err_from_is_err_and}
use Rattle.cli_storm.proofs.Playing.{entry_fails, one_played}
use Rattle.cli_storm.proofs.storm.Storm.play.Goals as goal
use Rattle.cli_storm.specs.Storm.{storm}
use Rattle.text_script.specs.rbc_world.World.{line_of, state_of}

pub returns-in_err-play_one-clause-told : goal.returns-in_err-play_one-clause-told
returns-in_err-play_one-clause-told g c =
    let old = c.args.self.now in
    let p = err_from_is_err_and c.from_residual.result c.from_residual.ensures.1 in
    rw (p.1, p.2) (entry_fails g.T.Observer.tells (line_of old.world) (line_of c.loop-entry.self.world)
    c.loop-entry.invariant.line (state_of old.world) c.args.observer.now (state_of c.loop-entry.self.world)
    (state_of c.play_one.new.self.world)
    c.loop-entry.observer c.play_one.new.observer c.loop-entry.self.draws.x c.play_one.new.self.draws.x
    c.args.entries.now (storm (line_of old.world) (state_of old.world) old.draws.x c.args.entries.now)
    c.loop-entry.entry-index
    c.entry-item.result c.loop-entry-test.true c.entry-item.is c.loop-entry.invariant.goes c.in_err-play_one.field-0.0
    c.in_err-play_one.ensures.told)

pub loop-entry-preserved : goal.loop-entry-preserved
loop-entry-preserved g c =
    let old = c.args.self.now in
    record {
      line = c.in_ok-play_one.ensures.line ∙ c.loop-entry.invariant.line;
      goes =
          one_played g.T.Observer.tells (line_of old.world) (line_of c.loop-entry.self.world)
          c.loop-entry.invariant.line (state_of old.world) c.args.observer.now (state_of c.loop-entry.self.world)
          (state_of c.play_one.new.self.world)
          c.loop-entry.observer c.play_one.new.observer c.loop-entry.self.draws.x c.play_one.new.self.draws.x
          c.args.entries.now (storm (line_of old.world) (state_of old.world) old.draws.x c.args.entries.now)
          c.loop-entry.entry-index
          c.entry-item.result c.loop-entry-test.true c.entry-item.is c.loop-entry.invariant.goes
          c.in_ok-play_one.ensures.told;
    }

use Rattle.std.proofs.Common.{◌∙◌}
use Rattle.std.proofs.lemmas.Result.{err_from_is_err_and}
use Rattle.rbc_world.specs.World.{line_of, state_of}
use Rattle.text_script.proofs.play.play.Goals as goal
use Rattle.text_script.proofs.Playing.{halts, one_more}

pub returns-in_err-play_one-clause-told : goal.returns-in_err-play_one-clause-told
returns-in_err-play_one-clause-told g c =
    let p = err_from_is_err_and c.from_residual.result c.from_residual.ensures.1 in
    rw (p.1, p.2) (halts g.T.Observer.tells (line_of c.args.world.now) (state_of c.args.world.now) c.args.observer.now
    c.args.entries.now (line_of c.loop-entry.world) c.loop-entry.entry-index c.entry-item.result
    (state_of c.loop-entry.world) c.loop-entry.observer c.loop-entry-test.true c.entry-item.is
    c.loop-entry.invariant.line c.loop-entry.invariant.goes _ _ c.in_err-play_one.field-0.0
    c.in_err-play_one.ensures.told)

pub loop-entry-preserved : goal.loop-entry-preserved
loop-entry-preserved g c = record {
  line = c.in_ok-play_one.ensures.line ∙ c.loop-entry.invariant.line;
  goes =
      one_more g.T.Observer.tells (line_of c.args.world.now) (state_of c.args.world.now) c.args.observer.now
      c.args.entries.now (line_of c.loop-entry.world) c.loop-entry.entry-index c.entry-item.result
      (state_of c.loop-entry.world) c.loop-entry.observer c.loop-entry-test.true c.entry-item.is
      c.loop-entry.invariant.line c.loop-entry.invariant.goes _ _ c.in_ok-play_one.ensures.told;
}

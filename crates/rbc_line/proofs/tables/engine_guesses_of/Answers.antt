use Rattle.rbc_line.proofs.tables.engine_guesses_of.Goals as goal
use Rattle.rbc_line.proofs.TableSteps.{guess_more}

pub loop-i-preserved : goal.loop-i-preserved
loop-i-preserved c =
    rw c.note.ensures
    (guess_more (λ p. p.nid_engine) c.args.trains.now c.loop-i.i _ c.loop-i.guesses c.loop-i.invariant.0
    c.loop-i-test.true c.loop-i.invariant.1)

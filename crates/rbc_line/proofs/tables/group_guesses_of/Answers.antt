use Rattle.std.proofs.Common.{◌≡◌, get_or, rules}
use Rattle.rbc_line.proofs.tables.group_guesses_of.Goals as goal
use Rattle.rbc_line.proofs.TableSteps.{guess_more}

pub loop-s-preserved : goal.loop-s-preserved
loop-s-preserved c =
    let key : c.from.result
    ≡ (get_or c.args.sections.now c.loop-s.s
    (record { track = 0; start = 0; metres = 0; home = 0; balise = 0 })).balise = search rules in
    rw c.note.ensures
    (rw key
    (guess_more (λ p. p.balise) c.args.sections.now c.loop-s.s _ c.loop-s.guesses c.loop-s.invariant.0
    c.loop-s-test.true c.loop-s.invariant.1))

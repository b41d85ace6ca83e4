use Rattle.std.proofs.Common.{ap}
use Rattle.law_base.proofs.counting.run_at_once.Goals as goal
use Rattle.law_base.proofs.CountingLemmas.Places.{sweep_over, sweep_where}

pub returns-clause-state : goal.returns-clause-state
returns-clause-state c change say r f s = ap (λ o. o.state s) (sweep_over change say r f)

pub returns-clause-words : goal.returns-clause-words
returns-clause-words c change say r f = ap (λ o. o.words) (sweep_over change say r f)

pub returns-clause-tested : goal.returns-clause-tested
returns-clause-tested c change say test r f s = ap (λ o. o.state s) (sweep_where change say test r f)

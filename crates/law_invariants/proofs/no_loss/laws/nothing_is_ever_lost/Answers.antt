use Rattle.law_invariants.proofs.no_loss.laws.nothing_is_ever_lost.Goals as goal
use Rattle.law_invariants.proofs.NoLossLemmas.Worlds.{never_lost, step_loses_nothing}

pub returns-clause-step : goal.returns-clause-step
returns-clause-step ctx line w event answer new ok sound asked whole is =
    step_loses_nothing line ok w sound asked whole event answer new is

pub returns-clause-run : goal.returns-clause-run
returns-clause-run ctx line events answers w ok is = never_lost line ok events answers w is

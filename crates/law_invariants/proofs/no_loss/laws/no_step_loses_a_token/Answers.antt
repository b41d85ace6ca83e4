use Rattle.law_invariants.proofs.no_loss.laws.no_step_loses_a_token.Goals as goal
use Rattle.law_invariants.proofs.NoLossLemmas.Tokens.{no_token_lost}

pub returns : goal.returns
returns ctx line c t s k event ok range sound order due = no_token_lost line ok c t s k event range sound order due

use Rattle.law_invariants.proofs.no_loss.laws.each_step_is_exact.Goals as goal
use Rattle.law_invariants.proofs.NoLossLemmas.Rights.{no_right_lost}
use Rattle.law_invariants.proofs.NoLossLemmas.Tokens.{no_token_lost}

pub returns : goal.returns
returns ctx line c k event ok range sound order due = record {
  rights = λ t. no_right_lost line ok c t k event sound order due;
  tokens = λ t s. no_token_lost line ok c t s k event range sound order due;
}

use Rattle.law_base.proofs.rules.sections.a_cut_run_is_joined_again.Goals as goal
use Rattle.rbc_spec.proofs.Runs.{joined_again}

pub returns : goal.returns
returns c = joined_again

use Rattle.law_base.proofs.rules.sections.what_runs_share.Goals as goal
use Rattle.rbc_spec.proofs.Runs.{within_shared}

pub returns : goal.returns
returns c = within_shared

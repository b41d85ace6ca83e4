use Rattle.law_base.proofs.rules.sections.runs_of_the_same_sections.Goals as goal
use Rattle.rbc_spec.proofs.Runs.{run_only}

pub returns : goal.returns
returns c = run_only

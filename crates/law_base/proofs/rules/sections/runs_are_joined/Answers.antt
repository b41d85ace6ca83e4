use Rattle.law_base.proofs.rules.sections.runs_are_joined.Goals as goal
use Rattle.rbc_spec.proofs.Runs.{joined_count, joined_empty, within_joined}

pub returns-clause-both : goal.returns-clause-both
returns-clause-both c = within_joined

pub returns-clause-empty : goal.returns-clause-empty
returns-clause-empty c = joined_empty

pub returns-clause-count : goal.returns-clause-count
returns-clause-count c = joined_count

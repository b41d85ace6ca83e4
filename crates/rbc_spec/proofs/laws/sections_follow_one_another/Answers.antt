use Rattle.rbc_spec.proofs.laws.sections_follow_one_another.Goals as goal
use Rattle.rbc_spec.proofs.Places.{ends_before, ends_rise}

pub returns-clause-ends : goal.returns-clause-ends
returns-clause-ends c = ends_rise

pub returns-clause-before : goal.returns-clause-before
returns-clause-before c = ends_before

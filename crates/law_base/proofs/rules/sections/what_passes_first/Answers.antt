use Rattle.law_base.proofs.rules.sections.what_passes_first.Goals as goal
use Rattle.rbc_spec.proofs.Runs.{longest_is}

pub returns : goal.returns
returns c test r = longest_is test r.first r.count

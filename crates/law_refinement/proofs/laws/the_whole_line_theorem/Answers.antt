use Rattle.law_refinement.proofs.laws.the_whole_line_theorem.Goals as goal
use Rattle.law_refinement.proofs.Promises.{whole_line}

pub returns : goal.returns
returns ctx = whole_line

use Rattle.law_refinement.proofs.laws.what_meets_a_world.Goals as goal
use Rattle.law_refinement.proofs.Promises.{is_read, line_begins, stands_read}

pub returns-clause-beginning : goal.returns-clause-beginning
returns-clause-beginning ctx = line_begins

pub returns-clause-read : goal.returns-clause-read
returns-clause-read ctx = is_read

pub returns-clause-stands : goal.returns-clause-stands
returns-clause-stands ctx = stands_read

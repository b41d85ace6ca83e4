use Rattle.rbc_centre.proofs.centre.Centre.taken.Goals as goal
use Rattle.rbc_centre.specs.State.{stands_for}

pub returns : goal.returns
unfolding stands_for
returns c = c.taken.ensures

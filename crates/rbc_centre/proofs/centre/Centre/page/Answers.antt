use Rattle.rbc_centre.proofs.centre.Centre.page.Goals as goal
use Rattle.rbc_centre.specs.State.{stands_for}

pub returns-clause-entry : goal.returns-clause-entry
unfolding stands_for
returns-clause-entry c = c.page.ensures.entry

pub returns-clause-wish : goal.returns-clause-wish
unfolding stands_for
returns-clause-wish c = c.page.ensures.wish

use Rattle.law_outside.proofs.scenes.trains_side_by_side_are_seen.Goals as goal
use Rattle.law_outside.proofs.Seen.{not_the_first, not_the_second, own_first, own_second}

pub returns-clause-first : goal.returns-clause-first
returns-clause-first c = own_first

pub returns-clause-second : goal.returns-clause-second
returns-clause-second c = own_second

pub returns-clause-not_the_first : goal.returns-clause-not_the_first
returns-clause-not_the_first c = not_the_first

pub returns-clause-not_the_second : goal.returns-clause-not_the_second
returns-clause-not_the_second c = not_the_second

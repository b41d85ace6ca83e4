use Rattle.law_refinement.proofs.abstraction.laws.what_is_unseen_changes_nothing_else.Goals as goal
use Rattle.law_refinement.proofs.AbstractionLemmas.Shows.{unseen_shown}

pub returns : goal.returns
returns ctx = unseen_shown

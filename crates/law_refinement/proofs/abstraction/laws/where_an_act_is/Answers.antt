use Rattle.law_refinement.proofs.abstraction.laws.where_an_act_is.Goals as goal
use Rattle.law_refinement.proofs.AbstractionLemmas.Hands.{state_elsewhere, state_here}
use Rattle.law_refinement.proofs.AbstractionLemmas.Shows.{entry_elsewhere, entry_here, entry_kept}

pub returns-clause-here : goal.returns-clause-here
returns-clause-here ctx = state_here

pub returns-clause-elsewhere : goal.returns-clause-elsewhere
returns-clause-elsewhere ctx = state_elsewhere

pub returns-clause-entry : goal.returns-clause-entry
returns-clause-entry ctx = entry_here

pub returns-clause-other_entry : goal.returns-clause-other_entry
returns-clause-other_entry ctx = entry_elsewhere

pub returns-clause-kept_entry : goal.returns-clause-kept_entry
returns-clause-kept_entry ctx = entry_kept

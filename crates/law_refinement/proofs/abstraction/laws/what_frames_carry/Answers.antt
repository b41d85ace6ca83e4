use Rattle.law_base.proofs.CountingLemmas.Resource.{carried_none}
use Rattle.law_refinement.proofs.abstraction.laws.what_frames_carry.Goals as goal
use Rattle.law_refinement.proofs.AbstractionLemmas.Hands.{sends_both, sends_home, sends_none, sends_single, sends_some}

pub returns-clause-none : goal.returns-clause-none
returns-clause-none ctx = sends_none

pub returns-clause-some : goal.returns-clause-some
returns-clause-some ctx = sends_some

pub returns-clause-silent : goal.returns-clause-silent
returns-clause-silent ctx r c d = carried_none r c d

pub returns-clause-both : goal.returns-clause-both
returns-clause-both ctx = sends_both

pub returns-clause-single : goal.returns-clause-single
returns-clause-single ctx = sends_single

pub returns-clause-home : goal.returns-clause-home
returns-clause-home ctx = sends_home

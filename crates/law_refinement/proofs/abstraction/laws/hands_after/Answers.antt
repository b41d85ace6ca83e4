use Rattle.law_refinement.proofs.abstraction.laws.hands_after.Goals as goal
use Rattle.law_refinement.proofs.AbstractionLemmas.Hands.{counted, given, left, same, unchanged, was}

pub returns-clause-counted : goal.returns-clause-counted
returns-clause-counted ctx = counted

pub returns-clause-same : goal.returns-clause-same
returns-clause-same ctx = same

pub returns-clause-was : goal.returns-clause-was
returns-clause-was ctx = was

pub returns-clause-given : goal.returns-clause-given
returns-clause-given ctx = given

pub returns-clause-left : goal.returns-clause-left
returns-clause-left ctx line w c came y frames new t s sound act = left line w c came y frames new t s act sound

pub returns-clause-unchanged : goal.returns-clause-unchanged
returns-clause-unchanged ctx = unchanged

use Rattle.law_refinement.proofs.followups.laws.what_follows_at_a_border.Goals as goal
use Rattle.law_refinement.proofs.FollowupsLemmas.Borders.{announces_so, asks_so, border_so, grants_so}

pub returns-clause-asks : goal.returns-clause-asks
returns-clause-asks o line w c t d k v = asks_so line w c t d k v

pub returns-clause-announces : goal.returns-clause-announces
returns-clause-announces o line w c t d k v = announces_so line w c t d k v

pub returns-clause-both : goal.returns-clause-both
returns-clause-both o line w c t d k v = border_so line w c t d k v

pub returns-clause-grants : goal.returns-clause-grants
returns-clause-grants o line w c t track k v = grants_so line w c t track k v

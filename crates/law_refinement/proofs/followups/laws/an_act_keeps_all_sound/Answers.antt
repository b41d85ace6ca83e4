use Rattle.law_refinement.proofs.followups.laws.an_act_keeps_all_sound.Goals as goal
use Rattle.law_refinement.proofs.FollowupsLemmas.Keeps.{act_keeps, head_keeps}

pub returns-clause-by_itself : goal.returns-clause-by_itself
returns-clause-by_itself o line w c q ok sound to leaves fair orderly =
    act_keeps line ok c w sound to q leaves fair orderly

pub returns-clause-at_head : goal.returns-clause-at_head
returns-clause-at_head o line w a c f q ok sound from to head leaves fair taken =
    head_keeps line ok c w sound to q leaves a f from head fair taken

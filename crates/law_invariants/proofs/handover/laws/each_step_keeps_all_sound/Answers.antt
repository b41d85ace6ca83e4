use Rattle.law_invariants.proofs.handover.laws.each_step_keeps_all_sound.Goals as goal
use Rattle.law_invariants.proofs.HandoverLemmas.Worlds.{world_step_sound}

pub returns : goal.returns
returns o line w event answer new ok old is = world_step_sound line ok w old event answer new is

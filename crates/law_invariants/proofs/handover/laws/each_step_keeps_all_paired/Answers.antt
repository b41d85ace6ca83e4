use Rattle.law_invariants.proofs.handover.laws.each_step_keeps_all_paired.Goals as goal
use Rattle.law_invariants.proofs.HandoverLemmas.Steps.{paired_at_head, paired_by_itself}

pub returns-clause-by_itself : goal.returns-clause-by_itself
returns-clause-by_itself o line w c event counted by_itself pairs =
    paired_by_itself line w c event counted by_itself pairs

pub returns-clause-at_head : goal.returns-clause-at_head
returns-clause-at_head o line w a c f ok sound from to head next =
    paired_at_head line ok w sound a c from to f head next

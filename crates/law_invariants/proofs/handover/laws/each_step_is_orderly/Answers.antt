use Rattle.law_invariants.proofs.handover.laws.each_step_is_orderly.Goals as goal
use Rattle.law_invariants.proofs.HandoverLemmas.Steps.{step_orderly, step_taken}

pub returns-clause-by_itself : goal.returns-clause-by_itself
returns-clause-by_itself o line c k event by_itself = step_orderly line c event k by_itself

pub returns-clause-at_head : goal.returns-clause-at_head
returns-clause-at_head o line w a c f ok sound from to head next = step_taken line ok w sound a c from to f head next

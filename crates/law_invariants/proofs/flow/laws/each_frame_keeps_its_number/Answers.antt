use Rattle.law_invariants.proofs.flow.laws.each_frame_keeps_its_number.Goals as goal
use Rattle.law_invariants.proofs.FlowLemmas.Steps.{next_sent, sent_number, world_step_numbered}

pub returns-clause-kept : goal.returns-clause-kept
returns-clause-kept ctx line w event answer new has is = world_step_numbered line w has event answer new is

pub returns-clause-number : goal.returns-clause-number
returns-clause-number ctx w has a b number f is = sent_number w has a b number f is

pub returns-clause-next : goal.returns-clause-next
returns-clause-next ctx w has a b number f is next = next_sent w has a b number f is next

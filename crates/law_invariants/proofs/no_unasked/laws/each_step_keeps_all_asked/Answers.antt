use Rattle.law_invariants.proofs.no_unasked.laws.each_step_keeps_all_asked.Goals as goal
use Rattle.law_invariants.proofs.NoUnaskedLemmas.Worlds.{step_keeps_asked}

pub returns : goal.returns
returns ctx line w event answer new ok sound old is = step_keeps_asked line ok w sound old event answer new is

use Rattle.law_invariants.proofs.no_unasked.laws.a_line_begins_asked.Goals as goal
use Rattle.law_invariants.proofs.NoUnaskedLemmas.Worlds.{begins_asked}

pub returns : goal.returns
returns ctx line = begins_asked line

use Rattle.rbc_border.proofs.Hands.{HasNames}
use Rattle.rbc_border.proofs.names.fill.Given as goal

abbrev pub invariant-loop-k : goal.invariant-loop-k
invariant-loop-k l = HasNames l.nid_engine l.home l.sections.first l.k l.names

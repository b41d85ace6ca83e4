use Rattle.law_invariants.proofs.flow.laws.what_shows_stands.Goals as goal
use Rattle.law_invariants.proofs.FlowLemmas.Stands.{stands}

pub returns : goal.returns
returns c line w v sound sees = stands line w sound v sees

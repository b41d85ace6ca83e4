use Rattle.law_invariants.proofs.FlowLemmas.OnePlace.{centre_begins}
use Rattle.law_invariants.proofs.sound.laws.a_centre_begins_sound.Goals as goal

pub returns : goal.returns
returns o line c = centre_begins line c

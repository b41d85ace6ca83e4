use Rattle.law_base.proofs.local.laws.a_centre_begins_local.Goals as goal
use Rattle.law_base.proofs.LocalLemmas.Worlds.{begins_local}

pub returns : goal.returns
returns c = begins_local

use Rattle.law_base.proofs.local.laws.every_line_is_ordered.Goals as goal
use Rattle.law_base.proofs.LocalLemmas.Worlds.{is_ordered}

pub returns : goal.returns
returns c = is_ordered

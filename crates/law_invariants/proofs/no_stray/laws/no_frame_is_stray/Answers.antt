use Rattle.law_invariants.proofs.no_stray.laws.no_frame_is_stray.Goals as goal
use Rattle.law_invariants.proofs.NoStrayLemmas.Reached.{due}

pub returns : goal.returns
returns ctx line events answers w a b number f ok is sent next = due line ok events answers w is a b number f sent next

use Rattle.law_invariants.proofs.no_stray.laws.no_right_comes_unasked.Goals as goal
use Rattle.law_invariants.proofs.NoStrayLemmas.Reached.{right_asked}

pub returns : goal.returns
returns ctx line events answers w a b number t f ok is sent next comes =
    right_asked line ok events answers w is a b number f sent next t comes

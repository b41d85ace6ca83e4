use Rattle.law_invariants.proofs.no_stray.laws.no_route_comes_unasked.Goals as goal
use Rattle.law_invariants.proofs.NoStrayLemmas.Reached.{route_asked}

pub returns : goal.returns
returns ctx line events answers w a b number t r f ok is sent next tells =
    route_asked line ok events answers w is a b number f sent next t r tells

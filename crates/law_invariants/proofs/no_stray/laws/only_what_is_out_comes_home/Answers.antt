use Rattle.law_invariants.proofs.no_stray.laws.only_what_is_out_comes_home.Goals as goal
use Rattle.law_invariants.proofs.NoStrayLemmas.Reached.{home_out}

pub returns : goal.returns
returns ctx line events answers w a b number t s r f ok is sent next brings in_run =
    home_out line ok events answers w is a b number f sent next t s r brings in_run

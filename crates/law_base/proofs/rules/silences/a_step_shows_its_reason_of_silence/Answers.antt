use Rattle.law_base.proofs.rules.silences.a_step_shows_its_reason_of_silence.Goals as goal
use Rattle.law_base.proofs.RulesLemmas.Places.{silence_is}

pub returns : goal.returns
returns a line c k m = silence_is line c k m

use Rattle.law_invariants.proofs.no_stray.laws.each_question_is_answered.Goals as goal
use Rattle.law_invariants.proofs.NoStrayLemmas.Counts.{none_stands, none_waits}
use Rattle.law_invariants.proofs.NoStrayLemmas.Reached.{answered_so}

pub returns-clause-on_the_way : goal.returns-clause-on_the_way
returns-clause-on_the_way ctx line events answers w ok is = answered_so line ok events answers w is

pub returns-clause-at_rest : goal.returns-clause-at_rest
returns-clause-at_rest ctx line events answers w c ok is to none_from none_to =
    let so = answered_so line ok events answers w is in
    (none_stands line w so c to none_from none_to, none_waits line w so c to none_from none_to)

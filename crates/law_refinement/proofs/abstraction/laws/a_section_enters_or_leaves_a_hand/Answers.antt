use Rattle.law_refinement.proofs.abstraction.laws.a_section_enters_or_leaves_a_hand.Goals as goal
use Rattle.law_refinement.proofs.AbstractionLemmas.Shows.{enters_elsewhere, enters_here, leaves_elsewhere, opened, shut}
use Rattle.law_refinement.proofs.AbstractionLemmas.Shows.{token_used}

pub returns-clause-enters : goal.returns-clause-enters
returns-clause-enters ctx line w c came y frames new s d t old act home =
    enters_here line w c came y frames new s d act home t old

pub returns-clause-enters_lent : goal.returns-clause-enters_lent
returns-clause-enters_lent ctx line w c came y frames new s d t old act home =
    enters_elsewhere line w c came y frames new s d act home t old

pub returns-clause-token : goal.returns-clause-token
returns-clause-token ctx line w c came y frames new s d t act home =
    token_used line w c came y frames new s d act home t

pub returns-clause-opened : goal.returns-clause-opened
returns-clause-opened ctx line w c came y frames new s d old act home =
    opened line w c came y frames new s d act home old

pub returns-clause-shut : goal.returns-clause-shut
returns-clause-shut ctx line w c came y frames new s d old act home = shut line w c came y frames new s d act home old

pub returns-clause-leaves_lent : goal.returns-clause-leaves_lent
returns-clause-leaves_lent ctx line w c came y frames new s d t old act home =
    leaves_elsewhere line w c came y frames new s d act home t old

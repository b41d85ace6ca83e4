use Rattle.law_base.proofs.rules.distances.no_distance_is_cut.Goals as goal
use Rattle.law_base.proofs.RulesLemmas.Places.{authority_reaches, border_ahead, shortening_reaches}

pub returns-clause-authority : goal.returns-clause-authority
returns-clause-authority a line c k m n place h = authority_reaches line c k m n place h

pub returns-clause-shortening : goal.returns-clause-shortening
returns-clause-shortening c = shortening_reaches

pub returns-clause-border : goal.returns-clause-border
returns-clause-border a line c d k m n place ok h = border_ahead line c k m n place h d ok

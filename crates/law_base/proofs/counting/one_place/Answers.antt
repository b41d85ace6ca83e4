use Rattle.law_base.proofs.counting.one_place.Goals as goal
use Rattle.law_base.proofs.CountingLemmas.Coin.{coin_in_one_place, coin_in_one_place_at_most}

pub returns-clause-at_most : goal.returns-clause-at_most
returns-clause-at_most c = coin_in_one_place_at_most

pub returns-clause-exactly : goal.returns-clause-exactly
returns-clause-exactly c = coin_in_one_place

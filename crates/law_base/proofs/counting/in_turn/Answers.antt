use Rattle.law_base.proofs.counting.in_turn.Goals as goal
use Rattle.law_base.proofs.CountingLemmas.Coin.{letters_in_turn, next_in_turn}

pub returns-clause-chain : goal.returns-clause-chain
returns-clause-chain c = letters_in_turn

pub returns-clause-next : goal.returns-clause-next
returns-clause-next c = next_in_turn

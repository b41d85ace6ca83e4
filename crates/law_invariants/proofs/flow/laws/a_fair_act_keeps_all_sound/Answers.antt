use Rattle.law_invariants.proofs.flow.laws.a_fair_act_keeps_all_sound.Goals as goal
use Rattle.law_invariants.proofs.FlowLemmas.Kept.{acted_sound, delivered_sound, pairs_acted, pairs_took}
use Rattle.law_invariants.proofs.FlowLemmas.Steps.{aside_sound}

pub returns-clause-by_itself : goal.returns-clause-by_itself
returns-clause-by_itself ctx line w c y frames sound to leaves fair pairs =
    acted_sound line w sound c to y frames leaves fair pairs

pub returns-clause-at_head : goal.returns-clause-at_head
returns-clause-at_head ctx line w a c f y frames sound from to takes leaves fair pairs =
    delivered_sound line w sound c to y frames leaves a f takes from fair pairs

pub returns-clause-sent : goal.returns-clause-sent
returns-clause-sent ctx w c i j t y frames counted sends apart pair =
    pairs_acted w counted c y frames sends apart i j t pair

pub returns-clause-taken : goal.returns-clause-taken
returns-clause-taken ctx w a c i j t f takes neutral pair = pairs_took w a c f takes neutral i j t pair

pub returns-clause-aside : goal.returns-clause-aside
returns-clause-aside ctx line w c y sound to aside = aside_sound line w sound c to y aside

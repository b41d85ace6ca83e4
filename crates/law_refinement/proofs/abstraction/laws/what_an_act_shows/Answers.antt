use Rattle.law_base.specs.Counting.Network.{acted, took}
use Rattle.law_invariants.specs.Flow.Keeping.{came_with, nothing_came}
use Rattle.law_refinement.proofs.abstraction.laws.what_an_act_shows.Goals as goal
use Rattle.law_refinement.proofs.AbstractionLemmas.Shows.{at_head, by_itself, shows_after}

pub returns-clause-act : goal.returns-clause-act
returns-clause-act ctx = shows_after

pub returns-clause-by_itself : goal.returns-clause-by_itself
returns-clause-by_itself ctx line w c y frames v after sound sees at owed =
    shows_after line w c nothing_came y frames (acted w c y frames) v after sound sees at
    (by_itself line w c y frames sound.counted at) owed

pub returns-clause-at_head : goal.returns-clause-at_head
returns-clause-at_head ctx line w a c f y frames v after sound sees from at takes owed =
    shows_after line w c (came_with a c f) y frames (acted (took w a c) c y frames) v after sound sees at
    (at_head line w a c f y frames sound.counted from at takes) owed

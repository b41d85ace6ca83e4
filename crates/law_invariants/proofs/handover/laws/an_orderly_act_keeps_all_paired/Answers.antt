use Rattle.law_invariants.proofs.handover.laws.an_orderly_act_keeps_all_paired.Goals as goal
use Rattle.law_invariants.proofs.HandoverLemmas.Kept.{orderly_pairs, taking_pairs}
use Rattle.law_invariants.proofs.HandoverLemmas.Steps.{none_is_allowed}
use Rattle.law_invariants.specs.Handover.Orderly.{none_allowed}

pub returns-clause-acts : goal.returns-clause-acts
returns-clause-acts o w c i j t y frames counted is =
    orderly_pairs w counted c y frames none_allowed is (λ d u x so. absurd (none_is_allowed so)) i j t

pub returns-clause-yields : goal.returns-clause-yields
returns-clause-yields o w c i j t y frames allow counted is may = orderly_pairs w counted c y frames allow is may i j t

pub returns-clause-takes : goal.returns-clause-takes
returns-clause-takes o w a c i j t f y head is = taking_pairs w a c f head y is i j t

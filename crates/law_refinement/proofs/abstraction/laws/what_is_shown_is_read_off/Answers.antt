use Rattle.std.proofs.Common.{subst}
use Rattle.law_invariants.proofs.FlowLemmas.Stands.{stands}
use Rattle.law_refinement.proofs.abstraction.laws.what_is_shown_is_read_off.Goals as goal
use Rattle.law_refinement.proofs.AbstractionLemmas.Marks.{is_read_off}
use Rattle.rbc_spec.specs.ReadOff.{StandsFor}

pub returns-clause-stands : goal.returns-clause-stands
returns-clause-stands ctx line w v sound sees =
    subst (StandsFor line w) (is_read_off line w sound v sees) (stands line w sound v sees)

pub returns-clause-same : goal.returns-clause-same
returns-clause-same ctx line w v sound sees = is_read_off line w sound v sees

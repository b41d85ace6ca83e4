use Rattle.std.specs.Prelude.{Option, ℕ}
use Rattle.law_refinement.proofs.abstraction.laws.one_part_after.Goals as goal
use Rattle.law_refinement.proofs.AbstractionLemmas.Shows.{part_changes, part_stays}
use Rattle.rbc_spec.specs.Centre.{Phase}
use Rattle.rbc_spec.specs.Place.{Place}

pub returns-clause-phase : goal.returns-clause-phase
returns-clause-phase ctx = (part_stays Phase, part_changes Phase)

pub returns-clause-heard : goal.returns-clause-heard
returns-clause-heard ctx = (part_stays (Option ℕ), part_changes (Option ℕ))

pub returns-clause-said : goal.returns-clause-said
returns-clause-said ctx = (part_stays ℕ, part_changes ℕ)

pub returns-clause-wait : goal.returns-clause-wait
returns-clause-wait ctx = (part_stays (Option Place), part_changes (Option Place))

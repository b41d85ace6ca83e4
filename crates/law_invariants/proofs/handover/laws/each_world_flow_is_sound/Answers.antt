use Rattle.law_invariants.proofs.handover.laws.each_world_flow_is_sound.Goals as goal
use Rattle.law_invariants.proofs.HandoverLemmas.Worlds.{world_begins, world_run_sound}
use Rattle.rbc_spec.specs.World.{new_world}

pub returns : goal.returns
returns o line events answers w ok is = world_run_sound line ok events (new_world line) (world_begins line) answers w is

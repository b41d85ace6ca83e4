use Rattle.law_invariants.proofs.sound.laws.each_centre_of_a_world_is_sound.Goals as goal
use Rattle.law_invariants.proofs.SoundLemmas.Worlds.{new_sound, run_sound}
use Rattle.rbc_spec.specs.World.{new_world}

pub returns : goal.returns
returns o line events answers w ok is = run_sound line ok events (new_world line) (new_sound line) answers w is

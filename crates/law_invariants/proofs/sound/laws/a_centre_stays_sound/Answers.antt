use Rattle.law_invariants.proofs.sound.laws.a_centre_stays_sound.Goals as goal
use Rattle.law_invariants.proofs.SoundLemmas.Events.{stays_sound}

pub returns : goal.returns
returns o line c k event ok range sound = stays_sound line ok c k event range sound

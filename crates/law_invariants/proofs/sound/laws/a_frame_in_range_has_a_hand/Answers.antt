use Rattle.law_invariants.proofs.sound.laws.a_frame_in_range_has_a_hand.Goals as goal
use Rattle.law_invariants.proofs.SoundLemmas.Worlds.{range_hand, sound_hand}

pub returns-clause-ranges : goal.returns-clause-ranges
returns-clause-ranges o body range = range_hand body range

pub returns-clause-sound : goal.returns-clause-sound
returns-clause-sound o line a b body sound = sound_hand line a b body sound

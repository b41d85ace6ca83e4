-- Events on the small line that lead to questions and answers, and the effect of a wrong answer.
use Rattle.std.specs.Prelude.{◌<◌, true, List, [], ◌∷◌, ◌++◌}
use Rattle.law_base.specs.Counting.Resource.{Resource, placed, allowed, IsAtCap}
use Rattle.rbc_spec.specs.Line.{Line}
use Rattle.rbc_spec.specs.Message.{InitiationOfSession, SessionEstablished, StartOfMission}
use Rattle.rbc_spec.specs.Frame.{Body}
use Rattle.rbc_spec.specs.Centre.{Centre}
use Rattle.rbc_spec.specs.World.{Event, Set}
use Rattle.law_invariants.specs.Flow.Flow.{Flow, centre_count}
use Rattle.law_mutants.specs.Small.{at, says, at_the_other}

-- train 1 starts at B, which asks A for its right: A has it
abbrev pub asking : List Event
asking = at_the_other ++ says 1 3 (StartOfMission true (at 1 600)) ∷ []

-- the session with B is begun again, and the start is given up, while the question is still on its way
abbrev pub giving_up : List Event
giving_up = asking ++ says 1 4 InitiationOfSession ∷ says 1 5 SessionEstablished ∷ []

-- train 1 has a mission at A, and starts at B too, which asks for its right: A has it not
abbrev pub asking_in_vain : List Event
asking_in_vain =
    Set 0 0 ∷ says 0 1 InitiationOfSession ∷ says 0 2 SessionEstablished ∷ says 0 3 (StartOfMission true (at 0 600))
    ∷ asking

-- the amount in all places together was the allowed amount, and is less now
pub record FallsShort (r : Resource Centre Body) (line : Line) (w v : Flow) : Type 0 where
  pub before : IsAtCap r (centre_count line) w
  pub after : placed r (centre_count line) v < allowed r (centre_count line) v

-- The counted amount exceeds the amount that may exist.
use Rattle.std.specs.Prelude.{◌<◌}
use Rattle.law_base.specs.Counting.Resource.{Resource, placed, allowed, IsWithinCap}
use Rattle.rbc_spec.specs.Line.{Line}
use Rattle.rbc_spec.specs.Frame.{Body}
use Rattle.rbc_spec.specs.Centre.{Centre}
use Rattle.law_invariants.specs.Flow.Flow.{Flow, centre_count}

-- the amount in all places together was at most the allowed amount, and is greater now
pub record GoesPast (r : Resource Centre Body) (line : Line) (w v : Flow) : Type 0 where
  pub before : IsWithinCap r (centre_count line) w
  pub after : allowed r (centre_count line) v < placed r (centre_count line) v

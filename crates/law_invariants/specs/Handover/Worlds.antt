-- A world of which all is sound.
use Rattle.rbc_spec.specs.Line.{Line}
use Rattle.rbc_spec.specs.World.{World}
use Rattle.law_invariants.specs.Flow.Flow.{flow_of}
use Rattle.law_invariants.specs.Flow.Numbers.{IsNumbered}
use Rattle.law_invariants.specs.Flow.Sound.{IsFlowSound}

-- its flow is sound, and its frames have their numbers
pub record IsWorldSound (line : Line) (w : World) : Type 0 where
  pub flow : IsFlowSound line (flow_of w)
  pub numbered : IsNumbered w

-- A world in which each single centre is sound.
use Rattle.std.specs.Prelude.{ℕ, All}
use Rattle.rbc_spec.specs.Line.{Line}
use Rattle.rbc_spec.specs.World.{World}
use Rattle.law_invariants.specs.Flow.Sound.{IsCentreSound, IsBodySound}

-- each centre is sound, and so is the body of each frame that one has sent to another
pub record AreCentresSound (line : Line) (w : World) : Type 0 where
  pub centres : (c : ℕ) → IsCentreSound line c (w.at c)
  pub sent : (a b : ℕ) → All (λ f. IsBodySound line a b f.body) ((w.at a).sent b)

-- Answers with few messages, replies and frames.
use Rattle.std.specs.Prelude.{ℕ, ◌≤◌, length, map}
use Rattle.rbc_spec.specs.Frame.{Frame}
use Rattle.rbc_spec.specs.Outcome.{Outcome}
use Rattle.rbc_spec.specs.World.{Answer, Answered}
use Rattle.law_base.specs.Rules.Sending.{GoInOrder}

-- at most two messages to trains and 64 replies to the interlocking, and on each link at most three frames, in their
-- order
pub record SaysFew (o : Outcome) : Type 0 where
  pub sayings : length o.sayings ≤ 2
  pub words : length o.words ≤ 64
  pub frames : (d : ℕ) → length (o.frames d) ≤ 3
  pub order : (d : ℕ) → GoInOrder (map (λ (f : Frame). f.body) (o.frames d))

abbrev pub IsFewAnswer : Answer → Type 0
IsFewAnswer (Answered outcome) = SaysFew outcome
IsFewAnswer answer = Unit {0}

-- Steps that leave a centre local.
use Rattle.std.specs.Prelude.{◌≡◌, ℕ, []}
use Rattle.rbc_spec.specs.Line.{Line}
use Rattle.rbc_spec.specs.Centre.{Centre}
use Rattle.rbc_spec.specs.Step.{Event, taken}
use Rattle.law_base.specs.Local.Local.{IsLocalAt}

-- after a step of the event the centre is local too, and the step has sent no frame
pub record StaysLocal (line : Line) (c : ℕ) (k : Centre) (event : Event) : Type 0 where
  pub state : IsLocalAt line c (taken line c event k).1
  pub frames : (d : ℕ) → (taken line c event k).0.frames d ≡ []

-- The places in which a train's mission is looked up: the centres of the line, and the Yields on the way between them.
use Rattle.std.specs.List.{filter_map}
use Rattle.std.specs.Prelude.{List, Option, slice_get, ℕ}
use Rattle.rbc_spec.specs.Line.{Line}
use Rattle.rbc_spec.specs.ReadOff.{centres_of, handed_over, Held, held_at}
use Rattle.rbc_spec.specs.World.{way, World}

-- the value for the first item that has one
abbrev pub first_given : {X Y : Type 0} → (X → Option Y) → List X → Option Y
first_given g xs = slice_get (filter_map g xs) 0

-- the mission of the first centre that has one
abbrev pub held_by_a_centre : Line → World → ℕ → Option Held
held_by_a_centre line w t = first_given (held_at w t) (centres_of line)

-- the mission that the first Yield of the train carries that is on the way from a to b
abbrev pub carried_between : World → ℕ → ℕ → ℕ → Option Held
carried_between w t a b = first_given (λ f. handed_over t f.body) (way w a b)

-- the mission that the first Yield of the train on the way from a carries
abbrev pub carried_from : Line → World → ℕ → ℕ → Option Held
carried_from line w t a = first_given (carried_between w t a) (centres_of line)

-- Supervision rights, by the places of their trains in the line file.
use Rattle.std.specs.Prelude.{ℕ, ◌==◌, Bool, false, List, slice_get, unwrap_or}
use Rattle.std.specs.Option.{option_map_or}
use Rattle.rbc_spec.specs.Line.{Line}
use Rattle.rbc_right.specs.declared.right.Right.{Right}

-- the place of the right's train in the line file
abbrev pub number_of_right : Right → ℕ
number_of_right right = right.train

abbrev pub right_of : ℕ → Right
right_of i = record { train = i }

-- for each train of the line, whether its right is here
abbrev pub Rights : Type 0
Rights = List Bool

-- the right of the train is here; of a train past the last it is not
unfoldable pub is_here : Rights → ℕ → Bool
is_here rights i = unwrap_or (slice_get rights i) false

-- the line has a train at this place, and its right is registered at the centre
abbrev pub is_registered_at : Line → ℕ → ℕ → Bool
is_registered_at line c i = option_map_or (λ p. p.registrar == c) (slice_get line.trains i) false

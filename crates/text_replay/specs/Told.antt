-- The frames of an answer.
use Rattle.std.specs.List.{find}
use Rattle.std.specs.Prelude.{◌==◌, if◌then◌else◌, None, Option, option_map, ℕ}
use Rattle.rbc_spec.specs.Frame.{Body}
use Rattle.rbc_spec.specs.World.{Answer, Answered}

-- the body of the frame of this number from one centre to another, if the answer to an event at a centre has the frame
abbrev pub body_sent : ℕ → Answer → ℕ → ℕ → ℕ → Option Body
body_sent at (Answered o) from to number =
    if from == at then option_map (λ f. f.body) (find (λ f. f.number == number) (o.frames to)) else None
body_sent at other from to number = None

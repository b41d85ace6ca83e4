-- How far a train of a demo runs in a second.
use Rattle.std.specs.Prelude.{◌+◌, ◌-◌, if◌then◌else◌, min, nat_lt, None, Option, Some, ℕ}

-- the farthest place of a front end: 2 m before the end of the authority or the goal, in decimetres
abbrev pub farthest : ℕ → ℕ → ℕ
farthest limit goal = min (min limit 20000000) goal - 20

-- the place of a front end after a second at this speed; none if the train stays
abbrev pub next_front : ℕ → ℕ → ℕ → ℕ → Option ℕ
next_front front limit goal speed =
    if nat_lt front (min (front + speed) (farthest limit goal)) then Some (min (front + speed) (farthest limit goal))
    else None

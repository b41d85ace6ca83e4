-- The directions in which the centres of a line send frames.
use Rattle.std.specs.List.{filter, flat_map, range_with_len}
use Rattle.std.specs.Prelude.{length, List, map, ℕ}
use Rattle.rbc_spec.specs.Line.{is_linked, Line}
use Rattle.serve_line.specs.declared.directions.Direction.{Direction}

-- the direction from centre c to centre d
abbrev pub direction : ℕ → ℕ → Direction
direction c d = record { from = c; to = d }

-- the directions in which centre c sends frames: one to each centre to which it has a link
abbrev pub directions_from : Line → ℕ → List Direction
directions_from line c = map (direction c) (filter (is_linked line c) (range_with_len 0 (length line.centres)))

-- those of all centres
abbrev pub directions_of : Line → List Direction
directions_of line = flat_map (directions_from line) (range_with_len 0 (length line.centres))

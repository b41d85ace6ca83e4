-- Sections of one home on one track.
use Rattle.std.specs.Prelude.{ℕ, Bool, ◌&&◌}
use Rattle.rbc_spec.specs.Line.{Line, is_home}
use Rattle.rbc_spec.specs.Sections.{is_on}

-- the section is of this home and on this track
abbrev pub is_of : Line → ℕ → ℕ → ℕ → Bool
is_of line home track s = is_home line home s && is_on line track s

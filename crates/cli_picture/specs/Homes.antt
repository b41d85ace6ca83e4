-- The stretches of homes on the tracks.
use Rattle.cli_picture.specs.declared.scale.Scale.{Scale}
use Rattle.cli_picture.specs.Scale.{height, x_of}
use Rattle.cli_picture.specs.Texts.{all_below, centre_text, home_box, past, track_text}
use Rattle.rbc_line.specs.declared.parts.Section.{Section}
use Rattle.rbc_line.specs.Views.{placed_section}
use Rattle.rbc_spec.specs.Line.{end, Line}
use Rattle.std.specs.Option.{option_map_or}
use Rattle.std.specs.Prelude.{[], ◌&&◌, ◌++◌, ◌-◌, ◌/◌, ◌==◌, codes, if◌then◌else◌, length, List, None}
use Rattle.std.specs.Prelude.{Option, option_map, slice_get, Some, suc, unwrap_or, zero, ℕ}
use Rattle.text_script.specs.Print.Rows.{name_at}

-- the stretch with one more section, if that is of the home and on the track
abbrev pub longer : Line → ℕ → ℕ → Option (ℕ × ℕ) → ℕ → Option (ℕ × ℕ)
longer line track home stretch s =
    option_map_or (λ (p : Section). if (p.track == track) && (p.home == home)
    then Some (unwrap_or (option_map (λ s. s.0) stretch) p.start, end line s) else stretch)
    (placed_section line s) stretch

-- the start and the end of a home's sections on a track, among the first sections, this many
abbrev pub stretch_of : Line → ℕ → ℕ → ℕ → Option (ℕ × ℕ)
stretch_of line track home zero = None
stretch_of line track home (suc s) = longer line track home (stretch_of line track home s) s

-- the box of a home from one place to another, and its name above the middle
abbrev pub box_from : Scale → ℕ → ℕ → ℕ → ℕ → List ℕ
box_from scale axis home from to =
    home_box home from (to - from) scale.top (height scale)
    ++ centre_text (name_at scale.line.now home) (past from ((to - from) / 2)) (past axis 34)

-- the stretch of a home on a track; a home without a section there has none
abbrev pub home_text : Scale → ℕ → ℕ → ℕ → List ℕ
home_text scale axis track home =
    option_map_or (λ p. box_from scale axis home (x_of scale.line.now track p.0) (x_of scale.line.now track p.1))
    (stretch_of scale.line.now track home (length scale.line.now.sections)) []

-- the name of a track above the point at this many metres
abbrev pub track_head : Scale → ℕ → ℕ → ℕ → List ℕ
track_head scale axis track metres =
    track_text (x_of scale.line.now track metres) (past axis 14)
    (unwrap_or (slice_get scale.line.now.tracks track) (codes "?"))

-- a track: its name above its start, and the stretches of the homes in the order of their numbers
abbrev pub homes_text : Scale → ℕ → ℕ → List ℕ
homes_text scale axis track =
    track_head scale axis track 0 ++ all_below (home_text scale axis track) (length scale.line.now.centres)

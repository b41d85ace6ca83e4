-- The sections of the line by number, and the runs of sections that share a property.
use Rattle.std.specs.Prelude.{ℕ, ◌==◌, Bool, ◌&&◌, length, slice_get}
use Rattle.std.specs.List.{list_all, filter, sum_by, range_with_len}
use Rattle.std.specs.Option.{option_map_or}
use Rattle.rbc_spec.specs.Maps.{has}
use Rattle.rbc_spec.specs.Line.{Line, section, is_home}
use Rattle.rbc_spec.specs.SectionRuns.{SectionRun, run_of}

-- NID_RBC of a centre of the line
abbrev pub nid_rbc : Line → ℕ → ℕ
nid_rbc line c = option_map_or (λ p. p.nid_rbc) (slice_get line.centres c) 0

-- the number of sections of the line
abbrev pub section_count : Line → ℕ
section_count line = length line.sections

-- s is a section of the line, and is on this track
abbrev pub is_on : Line → ℕ → ℕ → Bool
is_on line track s = has (λ p. p.track == track) (section line s)

-- The run of the sections of the line that pass a test. It is meant for tests that consecutive sections pass.
-- Rules: LN-13
abbrev pub run_where : Line → (ℕ → Bool) → SectionRun
run_where line test = run_of (filter test (range_with_len 0 (section_count line)))

-- the run of the sections of one home on one track, which are consecutive
-- Rules: LN-13
abbrev pub home_run : Line → ℕ → ℕ → SectionRun
home_run line c track = run_where line (λ s. is_home line c s && is_on line track s)

-- all sections of the run are on the track
abbrev pub is_on_track : Line → ℕ → SectionRun → Bool
is_on_track line track r = list_all (λ s. is_on line track s) (range_with_len r.first r.count)

-- the end of a track in metres: the sum of the lengths of its sections
abbrev pub track_end : Line → ℕ → ℕ
track_end line track = sum_by (λ p. p.metres) (filter (λ p. p.track == track) line.sections)

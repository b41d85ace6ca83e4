-- The plain data of the parts of a `Line` in memory.
use Rattle.std.specs.Prelude.{ℕ, map, Option, option_map, slice_get, string_bytes}
use Rattle.rbc_spec.specs.Line.{Line, Centre, Section, Train, section, start}
use Rattle.rbc_line.specs.declared.parts.Centre.{Centre as CentreRow}
use Rattle.rbc_line.specs.declared.parts.Rows.{Rows}
use Rattle.rbc_line.specs.declared.parts.Section.{Section as SectionRow}
use Rattle.rbc_line.specs.declared.parts.Train.{Train as TrainRow}

-- a centre in memory as one of the line
abbrev pub centre_of : CentreRow → Centre
centre_of row = record { name = string_bytes row.name; nid_rbc = row.nid_rbc }

-- without its start, which follows from the lengths
abbrev pub section_of : SectionRow → Section
section_of row = record { track = row.track; metres = row.metres; home = row.home; balise = row.balise }

-- a train in memory as one of the line
abbrev pub train_of : TrainRow → Train
train_of row = record { nid_engine = row.nid_engine; registrar = row.registrar }

-- the line of these lists
abbrev pub line_of_rows : Rows → Line
line_of_rows rows =
    record {
      nid_c = rows.nid_c;
      centres = map centre_of rows.centres.items;
      tracks = map string_bytes rows.tracks.items;
      sections = map section_of rows.sections.items;
      trains = map train_of rows.trains.items;
    }

-- the section of this number, with its start
abbrev pub placed_section : Line → ℕ → Option SectionRow
placed_section line s =
    option_map (λ p. record {
      track = p.track;
      start = start line s;
      metres = p.metres;
      home = p.home;
      balise = p.balise;
    }) (section line s)

-- the train at this place of the line file
abbrev pub listed_train : Line → ℕ → Option TrainRow
listed_train line i =
    option_map (λ p. record { nid_engine = p.nid_engine; registrar = p.registrar }) (slice_get line.trains i)

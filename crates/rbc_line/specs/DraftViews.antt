-- The content of a draft in memory.
use Rattle.std.specs.Prelude.{ℕ, List, map}
use Rattle.toml.specs.View.{array_view}
use Rattle.rbc_line.specs.LineFile.{FileCentre, FileSection, FileTrain, FileTracks, FileParts, LineFile}
use Rattle.rbc_line.specs.declared.draft.Parts.{Parts}
use Rattle.rbc_line.specs.declared.draft.DraftCentre.{DraftCentre}
use Rattle.rbc_line.specs.declared.draft.DraftSection.{DraftSection}
use Rattle.rbc_line.specs.declared.draft.DraftTrack.{DraftTrack}
use Rattle.rbc_line.specs.declared.draft.DraftTracks.{DraftTracks}
use Rattle.rbc_line.specs.declared.draft.DraftTrain.{DraftTrain}
use Rattle.rbc_line.specs.declared.draft.Draft.{Draft}

-- the arrays of a draft as items
abbrev pub parts_view : Parts → FileParts
parts_view parts =
    record {
      nid_c = parts.nid_c;
      centres = array_view parts.centres.now;
      tracks = array_view parts.tracks.now;
      trains = array_view parts.trains.now;
    }

-- a centre as the file has it
abbrev pub centre_view : DraftCentre → FileCentre
centre_view row = record { name = row.name.now; nid_rbc = row.nid_rbc }

-- a section as the file has it
abbrev pub section_view : DraftSection → FileSection
section_view row = record { track = row.track; metres = row.metres; home = row.home.now; balise = row.balise }

-- the name of a track, and its sections
abbrev pub track_view : DraftTrack → List ℕ × List FileSection
track_view row = (row.name.now, map section_view row.sections.items)

-- a train as the file has it
abbrev pub train_view : DraftTrain → FileTrain
train_view row = record { engine = row.engine; registrar = row.registrar.now }

-- the names of the tracks, and the sections of all
abbrev pub tracks_view : DraftTracks → FileTracks
tracks_view tracks =
    record { names = map (λ name. name.now) tracks.names.items; sections = map section_view tracks.sections.items }

-- the whole content of a draft
abbrev pub file_view : Draft → LineFile
file_view draft =
    record {
      nid_c = draft.nid_c;
      centres = map centre_view draft.centres.items;
      tracks = tracks_view draft.tracks;
      trains = map train_view draft.trains.items;
    }

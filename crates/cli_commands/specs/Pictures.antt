-- The parts of a line as they are printed for a reader.
use Rattle.rbc_line.specs.declared.parts.Section.{Section}
use Rattle.rbc_line.specs.declared.parts.Train.{Train}
use Rattle.rbc_line.specs.Views.{listed_train, placed_section}
use Rattle.rbc_spec.specs.Line.{Line, is_linked}
use Rattle.std.specs.Fmt.{decimal}
use Rattle.std.specs.Option.{option_map_or, option_or}
use Rattle.std.specs.Prelude.{[], ◌&&◌, ◌++◌, ◌+◌, ◌-◌, ◌==◌, ◌^◌, Bool, codes, if◌then◌else◌, length, List, min, None}
use Rattle.std.specs.Prelude.{not, Option, option_and_then, option_map, slice_get, Some, suc, true, unwrap_or, zero, ℕ}
use Rattle.text_script.specs.Print.Rows.{name_at}

-- ## Sections

-- the end of a section, in metres from the start of its track
abbrev pub section_end : Section → ℕ
section_end s = min (s.start + s.metres) (2 ^ 32 - 1)

-- the section of this number, if it is on the track
abbrev pub section_on : Line → ℕ → ℕ → Option Section
section_on line track n =
    option_and_then (λ s. if s.track == track then Some s else None) (placed_section line n)

-- the last section of a track, of those below n
abbrev pub last_section : Line → ℕ → ℕ → Option Section
last_section line track zero = None
last_section line track (suc n) = option_or (section_on line track n) (last_section line track n)

-- the home of that section
abbrev pub last_home : Line → ℕ → ℕ → Option ℕ
last_home line track n = option_map (λ s. s.home) (last_section line track n)

-- the length of a track in metres: the end of its last section
abbrev pub track_metres : Line → ℕ → ℕ
track_metres line track = option_map_or section_end (last_section line track (length line.sections)) 0

-- the beginning and the end of a section, and its length
abbrev pub extent_text : Section → List ℕ
extent_text s = decimal s.start ++ (codes " to " ++ (decimal (section_end s) ++ (codes " m, "
    ++ (decimal s.metres ++ codes " m long"))))

-- a section: its home, its place and its balise group
abbrev pub section_text : Line → ℕ → Section → List ℕ
section_text line n s =
    (codes "  section " ++ (decimal n ++ (codes ", home " ++ (name_at line s.home ++ codes ", "))))
    ++ (extent_text s ++ (codes ", balise " ++ (decimal s.balise ++ codes "\n")))

-- the border at the start of a section, after a section of this home
abbrev pub border_text : Line → ℕ → Section → List ℕ
border_text line before s =
    codes "  border from " ++ (name_at line before ++ (codes " to " ++ (name_at line s.home ++ (codes " at " ++
    (decimal s.start ++ codes " m\n")))))

-- the border before a section, if the section before it has another home
abbrev pub border_before : Line → Option ℕ → Section → List ℕ
border_before line None s = []
border_before line (Some before) s = if before == s.home then [] else border_text line before s

-- a section after one of this home, and the border between them
abbrev pub placed_text : Line → Option ℕ → ℕ → Section → List ℕ
placed_text line before n s = border_before line before s ++ section_text line n s

-- the sections of a track below n, each with the border before it
abbrev pub sections_text : Line → ℕ → ℕ → List ℕ
sections_text line track zero = []
sections_text line track (suc n) =
    sections_text line track n
    ++ option_map_or (placed_text line (last_home line track n) n) (section_on line track n) []

-- ## The numbers of a track's sections

-- the name of a section's home, if the section before it has another home or there is none
abbrev pub home_before : Line → Option ℕ → ℕ → List ℕ
home_before line None home = codes "  " ++ (name_at line home ++ codes ":")
home_before line (Some before) home =
    if before == home then [] else codes " | " ++ (name_at line home ++ codes ":")

-- the numbers of a track's sections below n, after the names of their homes
abbrev pub numbers_text : Line → ℕ → ℕ → List ℕ
numbers_text line track zero = []
numbers_text line track (suc n) =
    numbers_text line track n
    ++ option_map_or (λ s. home_before line (last_home line track n) s.home ++ (codes " " ++ decimal n))
    (section_on line track n) []

-- these numbers on a line
abbrev pub row_text : Line → ℕ → List ℕ
row_text line track = numbers_text line track (length line.sections) ++ codes "\n"

-- ## Tracks

abbrev pub track_text : Line → ℕ → List ℕ
track_text line track =
    (codes "track " ++ (unwrap_or (slice_get line.tracks track) (codes "?") ++ (codes ", "
    ++ (decimal (track_metres line track) ++ codes " m\n"))))
    ++ (row_text line track ++ sections_text line track (length line.sections))

-- the tracks below n
abbrev pub tracks_text : Line → ℕ → List ℕ
tracks_text line zero = []
tracks_text line (suc n) = tracks_text line n ++ track_text line n

-- ## Centres

-- the names of the centres below n that are linked with this one
abbrev pub linked_names : Line → ℕ → ℕ → List ℕ
linked_names line centre zero = []
linked_names line centre (suc n) =
    linked_names line centre n ++ (if is_linked line centre n then codes " " ++ name_at line n else [])

-- no centre below n is linked with this one
abbrev pub is_alone : Line → ℕ → ℕ → Bool
is_alone line centre zero = true
is_alone line centre (suc n) = is_alone line centre n && not (is_linked line centre n)

-- a centre: its name and its NID_RBC
abbrev pub centre_beginning : Line → ℕ → List ℕ
centre_beginning line c =
    codes "centre " ++ (name_at line c ++ (codes ", NID_RBC "
    ++ (decimal (option_map_or (λ p. p.nid_rbc) (slice_get line.centres c) 0) ++ codes ", linked with")))

-- a centre, with the centres that it is linked with
abbrev pub centre_text : Line → ℕ → List ℕ
centre_text line c =
    centre_beginning line c ++ (linked_names line c (length line.centres)
    ++ ((if is_alone line c (length line.centres) then codes " none" else []) ++ codes "\n"))

-- the centres below n
abbrev pub centres_text : Line → ℕ → List ℕ
centres_text line zero = []
centres_text line (suc n) = centres_text line n ++ centre_text line n

-- ## Trains

-- a train: its NID_ENGINE and its registrar
abbrev pub train_text : Line → Train → List ℕ
train_text line t =
    codes "train " ++ (decimal t.nid_engine ++ (codes ", registrar " ++ (name_at line t.registrar ++ codes "\n")))

-- the train at this place of the line file
abbrev pub train_at : Line → ℕ → List ℕ
train_at line n = option_map_or (train_text line) (listed_train line n) []

-- the trains below n
abbrev pub trains_text : Line → ℕ → List ℕ
trains_text line zero = []
trains_text line (suc n) = trains_text line n ++ train_at line n

-- ## The whole line

abbrev pub nid_text : Line → List ℕ
nid_text line = codes "NID_C " ++ (decimal line.nid_c ++ codes "\n")

abbrev pub picture_text : Line → List ℕ
picture_text line =
    nid_text line ++ (centres_text line (length line.centres) ++ (tracks_text line (length line.tracks)
    ++ trains_text line (length line.trains)))

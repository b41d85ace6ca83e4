-- The values of a line as a text. Line files that differ only in comments, blanks or layout have one text.
use Rattle.std.specs.Fmt.{decimal}
use Rattle.std.specs.List.{flat_map}
use Rattle.std.specs.Prelude.{◌++◌, ◌∷◌, codes, List, ℕ}
use Rattle.rbc_spec.specs.Line.{Centre, Line, Section, Train}

-- of each centre, in the order of their numbers: its name, and its NID_RBC
abbrev pub centre_line : Centre → List ℕ
centre_line p = codes "centre " ++ (p.name ++ (codes " " ++ (decimal p.nid_rbc ++ codes "\n")))

-- of each track: its name
abbrev pub track_line : List ℕ → List ℕ
track_line name = codes "track " ++ (name ++ codes "\n")

-- of each section: the number of its track, its length in metres, the number of its home, and its NID_BG
abbrev pub section_line : Section → List ℕ
section_line p =
    codes "section " ++ (decimal p.track ++ (codes " " ++ (decimal p.metres ++ (codes " " ++ (decimal p.home
    ++ (codes " " ++ (decimal p.balise ++ codes "\n")))))))

-- of each train: its NID_ENGINE, and the number of its registrar
abbrev pub train_line : Train → List ℕ
train_line p = codes "train " ++ (decimal p.nid_engine ++ (codes " " ++ (decimal p.registrar ++ codes "\n")))

-- all values of a line: NID_C, and then those of each centre, track, section and train
abbrev pub line_text : Line → List ℕ
line_text line =
    ((((codes "line " ++ (decimal line.nid_c ++ codes "\n")) ++ flat_map centre_line line.centres)
    ++ flat_map track_line line.tracks) ++ flat_map section_line line.sections) ++ flat_map train_line line.trains

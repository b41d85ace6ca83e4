-- The print of the line: one line of text for each section, and one for each train that messages have named.
use Rattle.std.specs.List.{find, flat_map}
use Rattle.std.specs.Prelude.{[], ◌++◌, ◌==◌, length, List, Option, option_and_then, suc, zero, ℕ}
use Rattle.rbc_spec.specs.Line.{Line}
use Rattle.rbc_spec.specs.LineCentre.{LineState}
use Rattle.rbc_spec.specs.ReadOff.{read_off}
use Rattle.rbc_spec.specs.World.{World}
use Rattle.rbc_world.specs.View.{centre_in}
use Rattle.text_script.specs.Print.Rows.{section_row, train_row}

-- the sections below n
abbrev pub section_rows : Line → LineState → ℕ → List ℕ
section_rows line v zero = []
section_rows line v (suc n) = section_rows line v n ++ section_row line n (v.mark n) (v.wish n)

-- the centre that supervises the mission of the train
abbrev pub seat_in : LineState → ℕ → Option ℕ
seat_in v t = option_and_then (λ m. centre_in m.supervisor) (v.mission t)

-- the same, if the train is of the line
abbrev pub seat_at : Line → LineState → ℕ → Option ℕ
seat_at line v t = option_and_then (λ p. seat_in v t) (find (λ p. p.nid_engine == t) line.trains)

-- these trains
abbrev pub train_rows : Line → LineState → List ℕ → List ℕ
train_rows line v trains = flat_map (λ t. train_row line t (seat_at line v t)) trains

abbrev pub state_text : Line → LineState → List ℕ → List ℕ
state_text line v trains = section_rows line v (length line.sections) ++ train_rows line v trains

-- the print of the current state of the centres, as read off, with the trains that messages have named
abbrev pub line_text : Line → World → List ℕ
line_text line w = state_text line (read_off line w) w.trains

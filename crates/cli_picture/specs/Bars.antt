-- The bars of sections, and the numbers of trains.
use Rattle.cli_picture.specs.declared.run.Run.{Run}
use Rattle.cli_picture.specs.declared.scale.Scale.{Scale}
use Rattle.cli_picture.specs.Requests.{track_of}
use Rattle.cli_picture.specs.Scale.{until_of, x_of, y_of}
use Rattle.cli_picture.specs.Texts.{bar_box, colour, past}
use Rattle.rbc_line.specs.Views.{listed_train}
use Rattle.rbc_spec.specs.Line.{end, Line, start}
use Rattle.std.specs.Fmt.{decimal}
use Rattle.std.specs.Option.{option_map_or}
use Rattle.std.specs.Prelude.{[], ◌+◌, ◌++◌, ◌-◌, ◌==◌, ◌^◌, ◌||◌, Bool, codes, if◌then◌else◌, is_some, List}
use Rattle.std.specs.Prelude.{max, min, None, not, Option, option_map, Some, unwrap_or, ℕ}
use Rattle.text_script.specs.rbc_world.declared.view.MissionView.{MissionView}

-- the class of a section that is wished back
abbrev pub wish_class : Bool → List ℕ
wish_class is_wished = if is_wished then codes " wished" else []

-- the start and the end of a section on the page
abbrev pub left_of : Line → ℕ → ℕ
left_of line section = x_of line (track_of line section) (start line section)

abbrev pub right_of : Line → ℕ → ℕ
right_of line section = x_of line (track_of line section) (end line section)

-- The box of a section from one event to another. It is narrower than the section by 1, and at least 1 wide and high.
abbrev pub box_of : Scale → ℕ → ℕ → ℕ → List ℕ
box_of scale section since until =
    bar_box (left_of scale.line.now section) (y_of scale since)
    (max (right_of scale.line.now section - left_of scale.line.now section - 1) 1)
    (max (until_of scale until - y_of scale since) 1)

-- the number of an event in the run, from 1
abbrev pub number_of : Run → ℕ → ℕ
number_of run event = min (2 ^ 64 - 1) (event + run.skipped + 1)

-- the events in which a stretch begins and ends, if it has an end
abbrev pub range_text : ℕ → Option ℕ → List ℕ
range_text since (Some until) = codes ", from event " ++ (decimal since ++ (codes " to " ++ decimal until))
range_text since None = codes ", from event " ++ decimal since

-- the NID_ENGINE of the train at a place of the line file
abbrev pub nid_engine_at : Line → ℕ → ℕ
nid_engine_at line train = unwrap_or (option_map (λ t. t.nid_engine) (listed_train line train)) 0

-- the NID_ENGINE of a train, 4 right of the start of a section and 13 below an event
abbrev pub name_text : Scale → ℕ → ℕ → ℕ → List ℕ
name_text scale train section event =
    codes "<text class=\"name " ++ (colour train ++ (codes "\" x=\"" ++
    (decimal (past (left_of scale.line.now section) 4) ++ (codes "\" y=\"" ++
    (decimal (past (y_of scale event) 13) ++ (codes "\">" ++
    (decimal (nid_engine_at scale.line.now train) ++ codes "</text>\n")))))))

-- the number of a train whose mission begins in an event, or goes on in event 0, at the start of its authority
abbrev pub start_text : Scale → Option MissionView → Option MissionView → ℕ → ℕ → List ℕ
start_text scale before after train event =
    option_map_or (λ m. if event == 0 || not (is_some before) then name_text scale train m.hand.first event else [])
    after []

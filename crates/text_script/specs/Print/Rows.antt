-- The printed lines, one for each item. A line feed ends each of them.
use Rattle.std.specs.Fmt.{decimal}
use Rattle.std.specs.Option.{option_map_or}
use Rattle.std.specs.Prelude.{◌++◌, Bool, codes, if◌then◌else◌, List, Option, slice_get, ℕ}
use Rattle.hex.specs.Hex.{encode_upper}
use Rattle.rbc_spec.specs.Frame.{Announce, AskRight, Body, Cancel, Frame, GiveRight, RefuseRight, ReturnRight, RouteAsk}
use Rattle.rbc_spec.specs.Frame.{RouteInfo, RouteReturn, RouteWithdraw, TakingOver, Yield}
use Rattle.rbc_spec.specs.Line.{Line, section}
use Rattle.rbc_spec.specs.LineCentre.{Given, Kept, Mark, Open, Shut}
use Rattle.rbc_spec.specs.Outcome.{Asked, Done, ForeignEngine, MissionEnded, NoPlace, NoSession, NotHome, NoTrainData}
use Rattle.rbc_spec.specs.Outcome.{NotSupervised, ProposalPending, Reason, StaleStamp, Told, Unasked, Word, WrongPhase}
use Rattle.rbc_world.specs.declared.event.WorldEvent.{WorldEvent}
use Rattle.rbc_world.specs.declared.event.WorldEvent.TheVariants as event

-- the name of a centre of the line
abbrev pub name_at : Line → ℕ → List ℕ
name_at line c = option_map_or (λ p. p.name) (slice_get line.centres c) (codes "?")

-- ## Events, as lines of a script

-- the text after `> `: a word, the name of a centre, and the rest
abbrev pub script_row : List ℕ → List ℕ → List ℕ → List ℕ
script_row word centre rest = codes "> " ++ (word ++ (codes " " ++ (centre ++ (codes " " ++ (rest ++ codes "\n")))))

abbrev pub delivery_row : List ℕ → List ℕ → ℕ → List ℕ
delivery_row from to number =
    codes "> deliver " ++ (from ++ (codes " " ++ (to ++ (codes " " ++ (decimal number ++ codes "\n")))))

abbrev pub event_row : Line → WorldEvent → List ℕ
event_row line (event.Train c bytes) = script_row (codes "train") (name_at line c) (encode_upper bytes.items)
event_row line (event.Set c s) = script_row (codes "set") (name_at line c) (decimal s)
event_row line (event.Unset c s) = script_row (codes "unset") (name_at line c) (decimal s)
event_row line (event.Deliver from to number) = delivery_row (name_at line from) (name_at line to) number

-- ## Lines about a centre of this name

-- a message to a train, as bytes
abbrev pub saying_row : List ℕ → ℕ → List ℕ → List ℕ
saying_row centre t bytes = centre ++ (codes " -> " ++ (decimal t ++ (codes " " ++ (encode_upper bytes ++ codes "\n"))))

abbrev pub body_name : Body → List ℕ
body_name (AskRight t) = codes "AskRight"
body_name (GiveRight t) = codes "GiveRight"
body_name (RefuseRight t) = codes "RefuseRight"
body_name (ReturnRight t) = codes "ReturnRight"
body_name (RouteAsk t first most) = codes "RouteAsk"
body_name (RouteInfo t run) = codes "RouteInfo"
body_name (RouteWithdraw t s) = codes "RouteWithdraw"
body_name (RouteReturn t run) = codes "RouteReturn"
body_name (Announce number t track) = codes "Announce"
body_name (Cancel number t) = codes "Cancel"
body_name (TakingOver number t) = codes "TakingOver"
body_name (Yield number t heard has_data is_ended place hand) = codes "Yield"

-- a frame to another centre, with the name of that centre
abbrev pub frame_row : List ℕ → List ℕ → Frame → List ℕ
frame_row centre to f =
    centre ++ (codes " => " ++
    (to ++ (codes " " ++ (decimal f.number ++ (codes " " ++ (body_name f.body ++ codes "\n"))))))

-- a reply to the interlocking about a section
abbrev pub told_row : List ℕ → ℕ → List ℕ → List ℕ
told_row centre s told = centre ++ (codes " " ++ (decimal s ++ (codes " " ++ (told ++ codes "\n"))))

abbrev pub word_row : List ℕ → Word → List ℕ
word_row centre (Done s) = told_row centre s (codes "Done")
word_row centre (Asked s) = told_row centre s (codes "Asked")
word_row centre (NotHome s) = told_row centre s (codes "NotHome")
word_row centre (Told s) = told_row centre s (codes "Told")

abbrev pub reason_number : Reason → ℕ
reason_number StaleStamp = 1
reason_number NoSession = 2
reason_number ForeignEngine = 3
reason_number NoPlace = 4
reason_number NotSupervised = 5
reason_number NoTrainData = 6
reason_number ProposalPending = 7
reason_number Unasked = 8
reason_number MissionEnded = 9
reason_number WrongPhase = 10

-- a step was silent, for this reason
abbrev pub silence_row : List ℕ → Reason → List ℕ
silence_row centre why = centre ++ (codes " silent " ++ (decimal (reason_number why) ++ codes "\n"))

-- a remark on the step, in one word
abbrev pub remark_row : List ℕ → List ℕ → List ℕ
remark_row centre remark = centre ++ (codes " " ++ (remark ++ codes "\n"))

-- the bytes have the fault of this number
abbrev pub fault_row : List ℕ → ℕ → List ℕ
fault_row centre number = centre ++ (codes " fault " ++ (decimal number ++ codes "\n"))

-- ## The line

-- the use of a section
abbrev pub mark_text : Mark → List ℕ
mark_text Shut = codes "shut"
mark_text Open = codes "open"
mark_text (Kept t) = codes "kept " ++ decimal t
mark_text (Given t) = codes "given " ++ decimal t

-- the name of a section's home
abbrev pub home_at : Line → ℕ → List ℕ
home_at line s = option_map_or (λ p. name_at line p.home) (section line s) (codes "?")

abbrev pub section_row : Line → ℕ → Mark → Bool → List ℕ
section_row line s mark is_wished =
    (codes "section " ++ (decimal s ++ (codes " " ++ (home_at line s ++ codes " "))))
    ++ (mark_text mark ++ ((if is_wished then codes " wished" else codes "") ++ codes "\n"))

-- the supervisor of a train
abbrev pub train_row : Line → ℕ → Option ℕ → List ℕ
train_row line t supervisor =
    codes "train " ++ (decimal t
    ++ (codes " " ++ (option_map_or (name_at line) supervisor (codes "none") ++ codes "\n")))

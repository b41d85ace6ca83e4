-- The events of a demo as lines of a script.
use Rattle.hex.specs.Hex.{encode_upper}
use Rattle.rbc_spec.specs.Line.{Line}
use Rattle.std.specs.Fmt.{decimal}
use Rattle.std.specs.Prelude.{◌++◌, codes, List, ℕ}
use Rattle.text_script.specs.Print.Rows.{name_at}
use Rattle.text_script.specs.rbc_world.declared.event.WorldEvent.{WorldEvent}
use Rattle.text_script.specs.rbc_world.declared.event.WorldEvent.TheVariants as event

-- a line: its word, the centre that it names, and the text after that
abbrev pub row_text : List ℕ → List ℕ → List ℕ → List ℕ
row_text word centre rest = word ++ (codes " " ++ (centre ++ (codes " " ++ (rest ++ codes "\n"))))

-- the line of a frame that is delivered
abbrev pub delivery_text : List ℕ → List ℕ → ℕ → List ℕ
delivery_text from to number =
    codes "deliver " ++ (from ++ (codes " " ++ (to ++ (codes " " ++ (decimal number ++ codes "\n")))))

-- the line of an event
abbrev pub event_text : Line → WorldEvent → List ℕ
event_text line (event.Train c bytes) = row_text (codes "train") (name_at line c) (encode_upper bytes.items)
event_text line (event.Set c s) = row_text (codes "set") (name_at line c) (decimal s)
event_text line (event.Unset c s) = row_text (codes "unset") (name_at line c) (decimal s)
event_text line (event.Deliver from to number) = delivery_text (name_at line from) (name_at line to) number

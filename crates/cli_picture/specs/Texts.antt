-- The elements of the diagram as text.
use Rattle.cli_picture.specs.declared.run.Event.{Event}
use Rattle.cli_picture.specs.declared.run.Kind.{Kind}
use Rattle.cli_picture.specs.declared.run.Kind.TheVariants as kind
use Rattle.cli_picture.specs.declared.marks.Sign.{Sign}
use Rattle.cli_picture.specs.declared.scale.Scale.{Scale}
use Rattle.cli_picture.specs.Missions.{shape_of}
use Rattle.cli_picture.specs.Scale.{y_of}
use Rattle.rbc_spec.specs.Line.{Line}
use Rattle.std.specs.declared.alloc.Global.{Global}
use Rattle.std.specs.Fmt.{decimal}
use Rattle.std.specs.Prelude.{[], ◌%◌, ◌+◌, ◌++◌, ◌-◌, ◌==◌, ◌∷◌, ◌≡◌, ◌^◌, Bool, codes, if◌then◌else◌}
use Rattle.std.specs.Prelude.{is_some, length, List, min, nat_le, String, string_bytes, suc, unwrap_or, zero, ℕ}
use Rattle.text_script.specs.Print.Rows.{name_at}
use Rattle.text_words.specs.Meanings.{meaning_of, messages}

-- this text is added at the end
abbrev pub Draws : String Global → String Global → List ℕ → Type 0
Draws old new text = string_bytes new ≡ string_bytes old ++ text

-- the texts of the first numbers, this many, in order
abbrev pub all_below : (ℕ → List ℕ) → ℕ → List ℕ
all_below text zero = []
all_below text (suc n) = all_below text n ++ text n

-- this far below or right of a place
abbrev pub past : ℕ → ℕ → ℕ
past place distance = min (place + distance) (2 ^ 64 - 1)

-- small words that begin at a place
abbrev pub small_text : ℕ → ℕ → List ℕ → List ℕ
small_text x y words =
    codes "<text x=\"" ++ (decimal x ++ (codes "\" y=\"" ++ (decimal y ++ (codes "\" class=\"small\">" ++
    (words ++ codes "</text>\n")))))

-- a small number in the middle of a place
abbrev pub small_number : ℕ → ℕ → ℕ → List ℕ
small_number x y number =
    codes "<text x=\"" ++ (decimal x ++ (codes "\" y=\"" ++ (decimal y ++
    (codes "\" class=\"small\" text-anchor=\"middle\">" ++ (decimal number ++ codes "</text>\n")))))

-- a line from the upper to the lower edge of the events
abbrev pub down_line : List ℕ → ℕ → ℕ → ℕ → List ℕ
down_line class x top bottom =
    codes "<path class=\"" ++ (class ++ (codes "\" d=\"M" ++ (decimal x ++ (codes " " ++ (decimal top ++ (codes "V" ++
    (decimal bottom ++ codes "\"/>\n")))))))

-- ## Events

-- words that a reader sees who points
abbrev pub title : List ℕ → List ℕ
title words = codes "<title>" ++ (words ++ codes "</title>")

-- an order of the interlocking: a name of more than 10 letters is in the title
abbrev pub order_text : List ℕ → List ℕ → ℕ → List ℕ
order_text name word section =
    if nat_le (length name) 10 then name ++ (codes " " ++ (word ++ (codes " " ++ decimal section)))
    else word ++ (codes " " ++ (decimal section ++ title name))

-- the arrow between two names, in UTF-8
abbrev pub arrow : List ℕ
arrow = 226 ∷ 134 ∷ 146 ∷ []

-- a frame: names of more than 10 letters together are in the title
abbrev pub frame_text : List ℕ → List ℕ → ℕ → List ℕ
frame_text from to number =
    if nat_le (min (length from + length to) (2 ^ 64 - 1)) 10
    then from ++ (arrow ++ (to ++ (codes " frame " ++ decimal number)))
    else codes "frame " ++ (decimal number ++ (codes "<title>" ++ (from ++ (arrow ++ (to ++ codes "</title>")))))

-- a message by its number, with its name in the title
abbrev pub message_text : ℕ → ℕ → List ℕ
message_text number nid_engine =
    decimal number ++ (codes " of train " ++ (decimal nid_engine ++
    title (unwrap_or (meaning_of messages number) (codes "no message that is read"))))

-- the description of an event; the beginning of an axis of time has none
abbrev pub kind_text : Line → Kind → List ℕ
kind_text line (kind.Set centre section) = order_text (name_at line centre) (codes "set") section
kind_text line (kind.Unset centre section) = order_text (name_at line centre) (codes "unset") section
kind_text line (kind.Message number nid_engine) = message_text number nid_engine
kind_text line kind.NoMessage = codes "no message"
kind_text line (kind.Delivery from to number) = frame_text (name_at line from) (name_at line to) number
kind_text line kind.Beginning = []

-- the class of a description: it is pale if the event has no answer
abbrev pub words_class : Bool → List ℕ
words_class is_silent = if is_silent then codes "small silent" else codes "small"

-- the beginning of words of this class at a place
abbrev pub begin_text : ℕ → ℕ → List ℕ → List ℕ
begin_text x y class =
    codes "<text x=\"" ++ (decimal x ++ (codes "\" y=\"" ++ (decimal y ++ (codes "\" class=\"" ++
    (class ++ codes "\">")))))

-- the description of an event beside the event's place, right of its number or its time
abbrev pub words_text : Scale → ℕ → Event → List ℕ
words_text scale e event =
    (begin_text (if is_some scale.axis then 64 else 52) (past (y_of scale e) 4) (words_class event.is_silent)
    ++ kind_text scale.line.now event.kind) ++ codes "</text>\n"

-- a line through all tracks, from 180 to 1180
abbrev pub line_at : ℕ → List ℕ
line_at y =
    codes "<path class=\"event\" d=\"M" ++ (decimal 180 ++ (codes " " ++ (decimal y ++ (codes "H" ++
    (decimal 1180 ++ codes "\"/>\n")))))

-- small words that end at a place
abbrev pub words_to : ℕ → ℕ → List ℕ → List ℕ
words_to x y words =
    codes "<text x=\"" ++ (decimal x ++ (codes "\" y=\"" ++ (decimal y ++
    (codes "\" class=\"small\" text-anchor=\"end\">" ++ (words ++ codes "</text>\n")))))

-- the number of an event, and a line at the event's place
abbrev pub number_text : ℕ → ℕ → List ℕ
number_text y number = line_at y ++ words_to 44 (past y 4) (decimal number)

-- ## The line

-- the name of a track
abbrev pub track_text : ℕ → ℕ → List ℕ → List ℕ
track_text x y name =
    codes "<text x=\"" ++ (decimal x ++ (codes "\" y=\"" ++ (decimal y ++ (codes "\" font-weight=\"bold\">" ++
    (name ++ codes "</text>\n")))))

-- the class of the box of a home: the tints take turns
abbrev pub tint_of : ℕ → List ℕ
tint_of home = if home % 2 == 0 then codes "odd" else codes "even"

-- the box of a home
abbrev pub home_box : ℕ → ℕ → ℕ → ℕ → ℕ → List ℕ
home_box home x width top height =
    codes "<rect class=\"" ++ (tint_of home ++ (codes "\" x=\"" ++ (decimal x ++ (codes "\" y=\"" ++ (decimal top ++
    (codes "\" width=\"" ++ (decimal width ++ (codes "\" height=\"" ++ (decimal height ++ codes "\"/>\n")))))))))

-- the name of a home, in the middle of a place
abbrev pub centre_text : List ℕ → ℕ → ℕ → List ℕ
centre_text name x y =
    codes "<text x=\"" ++ (decimal x ++ (codes "\" y=\"" ++ (decimal y ++
    (codes "\" text-anchor=\"middle\">centre " ++ (name ++ codes "</text>\n")))))

-- ## Trains and signs

-- the class of a train: its colour
abbrev pub colour : ℕ → List ℕ
colour train = codes "c" ++ decimal (train % 8)

-- a box of the legend, and its meaning right of it
abbrev pub legend_box : List ℕ → ℕ → ℕ → List ℕ → List ℕ
legend_box class x y words =
    (codes "<rect class=\"" ++ (class ++ (codes "\" x=\"" ++ (decimal x ++ (codes "\" y=\"" ++ (decimal y ++
    codes "\" width=\"22\" height=\"10\" transform=\"translate(0 -9)\"/>"))))))
    ++ small_text (past x 28) y words

-- a sign at a point of a train
abbrev pub sign_text : Sign → ℕ → ℕ → ℕ → List ℕ
sign_text sign train x y =
    codes "<path class=\"" ++ ((shape_of sign).0 ++ (codes " " ++ (colour train ++ (codes "\" d=\"M" ++ (decimal x ++
    (codes " " ++ (decimal y ++ ((shape_of sign).1 ++ codes "\"/>\n"))))))))

-- a line from the end of a train's authority to the end that is proposed
abbrev pub cut_text : ℕ → ℕ → ℕ → ℕ → List ℕ
cut_text train from y to =
    codes "<path class=\"cut " ++ (colour train ++ (codes "\" d=\"M" ++ (decimal from ++ (codes " " ++ (decimal y ++
    (codes "H" ++ (decimal to ++ codes "\"/>\n")))))))

-- the box of a section
abbrev pub bar_box : ℕ → ℕ → ℕ → ℕ → List ℕ
bar_box x y width height =
    codes " x=\"" ++ (decimal x ++ (codes "\" y=\"" ++ (decimal y ++ (codes "\" width=\"" ++ (decimal width ++
    (codes "\" height=\"" ++ (decimal height ++ codes "\">")))))))

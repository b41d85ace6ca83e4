-- The phrases for messages, places and printed lines.
use Rattle.rbc_line.specs.Views.{placed_section}
use Rattle.rbc_msgs.specs.TrackSpelling.{track_number}
use Rattle.rbc_spec.specs.Line.{Line, section_of_group, start}
use Rattle.rbc_spec.specs.Message as said
use Rattle.std.specs.Fmt.{decimal}
use Rattle.std.specs.Option.{option_map_or}
use Rattle.std.specs.Prelude.{[], ◌+◌, ◌++◌, ◌-◌, ◌^◌, Bool, codes, if◌then◌else◌, List, min, None, Option, option_map}
use Rattle.std.specs.Prelude.{slice_get, Some, unwrap_or, ℕ}
use Rattle.text_words.specs.declared.row.Row.{Row}
use Rattle.text_words.specs.declared.row.Row.TheVariants as row
use Rattle.text_words.specs.Meanings.{meaning_of, messages}

-- ## Places

-- the name of a track; `?` if the line has no such track
abbrev pub track_name : Line → ℕ → List ℕ
track_name line track = unwrap_or (slice_get line.tracks track) (codes "?")

-- the name of a centre; `?` if the line has no such centre
abbrev pub centre_name : Line → ℕ → List ℕ
centre_name line centre = option_map_or (λ c. c.name) (slice_get line.centres centre) (codes "?")

-- the name of the track of a section
abbrev pub track_at : Line → ℕ → List ℕ
track_at line number = option_map_or (λ s. track_name line s.track) (placed_section line number) (codes "?")

-- the start and the end of a section in metres of its track, and its home; empty if the line has no such section
abbrev pub stretch_words : Line → ℕ → List ℕ
stretch_words line number =
    option_map_or (λ s. decimal s.start ++ (codes " to " ++ (decimal (min (s.start + s.metres) (2 ^ 32 - 1))
    ++ (codes " m of " ++ (track_name line s.track
    ++ (codes ", home " ++ centre_name line s.home))))))
    (placed_section line number) []

-- the end of the words for a section that is wished back
abbrev pub wish_words : Bool → List ℕ
wish_words is_wished = if is_wished then codes ", wanted back" else codes ""

-- a section with its use, and the train that uses it
abbrev pub section_words : Line → ℕ → List ℕ → Option ℕ → Bool → List ℕ
section_words line number mark None is_wished =
    stretch_words line number ++ (codes ": " ++ (mark ++ wish_words is_wished))
section_words line number mark (Some engine) is_wished =
    stretch_words line number
    ++ (codes ": " ++ (mark ++ (codes " train " ++ (decimal engine ++ wish_words is_wished))))

-- the metres of a point this far from the start of a section
abbrev pub point_of : Line → ℕ → ℕ → ℕ
point_of line number metres = min (start line number + metres) (2 ^ 64 - 1)

-- the place that is this many metres past a balise group; the group itself if it is not of the line
abbrev pub point_from : Line → ℕ → ℕ → Option ℕ → List ℕ
point_from line group metres None = decimal metres ++ (codes " m past NID_LRBG " ++ decimal group)
point_from line group metres (Some number) =
    decimal (point_of line number metres) ++ (codes " m of " ++ track_at line number)

abbrev pub point_words : Line → ℕ → ℕ → List ℕ
point_words line group metres = point_from line group metres (section_of_group line group)

-- ## Messages of a centre

-- the order of a message: the end of an authority, the centre and the border of a transition, or a session that ends
abbrev pub order_words : Line → ℕ → said.TrackBody → Option (List ℕ)
order_words line group (said.Authority end) = Some (codes "to " ++ point_words line group end)
order_words line group (said.ShorteningRequest end) = Some (codes "to " ++ point_words line group end)
order_words line group (said.Transition border nid_c nid_rbc) =
    Some (codes "to NID_RBC " ++ (decimal nid_rbc ++ (codes " at " ++ point_words line group border)))
order_words line group (said.EndSession nid_c nid_rbc) =
    Some (codes "the session with NID_RBC " ++ (decimal nid_rbc ++ codes " ends"))
order_words line group other = None

-- the number of a message, its name, and the order after them
abbrev pub headed : ℕ → Option (List ℕ) → List ℕ
headed number None =
    decimal number ++ (codes " " ++ unwrap_or (meaning_of messages number) (codes "no message that is read"))
headed number (Some order) =
    decimal number
    ++ (codes " " ++ (unwrap_or (meaning_of messages number) (codes "no message that is read")
    ++ (codes ", " ++ order)))

abbrev pub track_words : Line → said.TrackMessage → List ℕ
track_words line m = headed (track_number m.body) (order_words line m.nid_lrbg m.body)

-- ## Printed lines

-- the speaker and the receiver, with an arrow between them
abbrev pub between : List ℕ → List ℕ → List ℕ → List ℕ
between from arrow to = from ++ (codes " " ++ (arrow ++ (codes " " ++ to)))

-- the event of a section or a frame
abbrev pub happened : List ℕ → ℕ → List ℕ → List ℕ
happened what number words = what ++ (codes " " ++ (decimal number ++ (codes " " ++ words)))

-- a number with its kind and its meaning
abbrev pub answered : List ℕ → ℕ → List ℕ → List ℕ
answered what number words = what ++ (codes " " ++ (decimal number ++ (codes ": " ++ words)))

-- the speaker and the receiver of a line
abbrev pub who_of : Row → List ℕ
who_of (row.Train centre digits) = centre.now
who_of (row.Set centre section) = between (codes "interlocking") (codes "->") centre.now
who_of (row.Unset centre section) = between (codes "interlocking") (codes "->") centre.now
who_of (row.Deliver from to number) = between from.now (codes "=>") to.now
who_of row.Show = []
who_of (row.Message centre engine digits) = centre.now
who_of (row.Frame from to number words) = between from.now (codes "=>") to.now
who_of (row.NotNext centre words) = centre.now
who_of (row.Word centre section words) = between centre.now (codes "->") (codes "interlocking")
who_of (row.Silent centre number words) = centre.now
who_of (row.Fault centre number words) = centre.now
who_of (row.Nothing centre) = centre.now
who_of row.NotSent = []
who_of (row.Section section mark train is_wished) = codes "section " ++ decimal section
who_of (row.Supervisor engine centre) = codes "train " ++ decimal engine

-- the supervisor of a train, by its name
abbrev pub supervisor_words : Option (List ℕ) → List ℕ
supervisor_words (Some name) = codes "supervised by " ++ name
supervisor_words None = codes "supervised by no centre"

-- the content of a line; bytes have none of their own
abbrev pub what_of : Line → Row → List ℕ
what_of line (row.Set centre section) = happened (codes "section") section (codes "is released")
what_of line (row.Unset centre section) = happened (codes "section") section (codes "is wanted back")
what_of line (row.Deliver from to number) = happened (codes "frame") number (codes "is delivered")
what_of line (row.Frame from to number words) = answered (codes "frame") number words.now
what_of line (row.Word centre section words) = answered (codes "section") section words.now
what_of line (row.Silent centre number words) = answered (codes "silent") number words.now
what_of line (row.Fault centre number words) = answered (codes "fault") number words.now
what_of line (row.Section section mark train is_wished) = section_words line section mark.now train is_wished
what_of line (row.Supervisor engine centre) = supervisor_words (option_map (λ name. name.now) centre)
what_of line row.Show = codes "the line is shown"
what_of line (row.Nothing centre) = codes "taken, and nothing is answered"
what_of line row.NotSent = codes "no such frame was sent"
what_of line (row.NotNext centre words) = words.now
what_of line (row.Train centre digits) = []
what_of line (row.Message centre engine digits) = []

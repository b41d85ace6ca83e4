-- Expectations, and the answers that meet them.
use Rattle.std.specs.List.{list_any}
use Rattle.std.specs.Prelude.{◌&&◌, ◌+◌, ◌==◌, ◌≡◌, Bool, false, IsTrue, length, nat_lt, None, Option, option_and_then}
use Rattle.std.specs.Prelude.{option_map, Some, true, ℕ}
use Rattle.rbc_line.specs.Views.{placed_section}
use Rattle.rbc_msgs.specs.TrackSpelling.{track_number}
use Rattle.rbc_spec.specs.Frame as frame
use Rattle.rbc_spec.specs.Line.{Line, section_of_group}
use Rattle.rbc_spec.specs.LineCentre as line_centre
use Rattle.rbc_spec.specs.Maps.{has}
use Rattle.rbc_spec.specs.Message as said
use Rattle.rbc_spec.specs.Message.{TrackMessage}
use Rattle.rbc_spec.specs.Outcome as spec
use Rattle.rbc_spec.specs.Outcome.{Outcome, Saying}
use Rattle.rbc_spec.specs.ReadOff.{read_off}
use Rattle.rbc_spec.specs.World.{Answer, Answered, World}
use Rattle.rbc_world.specs.rbc_book.declared.mark.Mark.{Mark}
use Rattle.rbc_world.specs.rbc_book.declared.mark.Mark.TheVariants as mark
use Rattle.rbc_world.specs.rbc_centre.declared.outcome.Word.{Word}
use Rattle.rbc_world.specs.rbc_centre.declared.outcome.Word.TheVariants as word
use Rattle.text_scenario.specs.declared.expectation.BodyKind.{BodyKind}
use Rattle.text_scenario.specs.declared.expectation.BodyKind.TheVariants as kind
use Rattle.text_scenario.specs.declared.expectation.Expectation.{Expectation}
use Rattle.text_scenario.specs.declared.expectation.Expectation.TheVariants as expect
use Rattle.text_scenario.specs.declared.expectation.Message.{Message}
use Rattle.text_scenario.specs.declared.expectation.Message.TheVariants as message
use Rattle.text_script.specs.Print.Answers.{SaysNothing}
use Rattle.text_script.specs.Print.Rows.{reason_number}
use Rattle.text_script.specs.Print.Shown.{seat_at}

-- the number, or any
abbrev pub is_or_any : Option ℕ → ℕ → Bool
is_or_any None n = true
is_or_any (Some wanted) n = wanted == n

-- the point this far past a balise group, in metres of the track
abbrev pub point_of : Line → ℕ → ℕ → Option ℕ
point_of line group metres =
    option_map (λ p. p.start + metres) (option_and_then (λ s. placed_section line s) (section_of_group line group))

-- that point is the expected one, or any is
abbrev pub ends_at : Line → ℕ → ℕ → Option ℕ → Bool
ends_at line group metres None = true
ends_at line group metres (Some wanted) = has (λ point. point == wanted) (point_of line group metres)

-- the body of a message from this balise group is the expected one
abbrev pub fits_body : Line → ℕ → Message → said.TrackBody → Bool
fits_body line group (message.Numbered number) body = number == track_number body
fits_body line group (message.Authority end) (said.Authority l) = ends_at line group l end
fits_body line group (message.ShorteningRequest end) (said.ShorteningRequest l) = ends_at line group l end
fits_body line group (message.DataAcknowledged time) (said.DataAcknowledged stamp) = is_or_any time stamp
fits_body line group (message.Transition nid_rbc border) (said.Transition d c r) =
    is_or_any nid_rbc r && ends_at line group d border
fits_body line group message.EndSession (said.EndSession c r) = true
fits_body line group message.SystemVersion said.SystemVersion = true
fits_body line group message.TerminationAcknowledged said.TerminationAcknowledged = true
fits_body line group message.TrainRejected said.TrainRejected = true
fits_body line group message.TrainAccepted said.TrainAccepted = true
fits_body line group wanted body = false

-- a message to a train is the expected one
abbrev pub fits : Line → Message → TrackMessage → Bool
fits line wanted m = fits_body line m.nid_lrbg wanted m.body

abbrev pub kind_of : frame.Body → BodyKind
kind_of (frame.AskRight t) = kind.AskRight
kind_of (frame.GiveRight t) = kind.GiveRight
kind_of (frame.RefuseRight t) = kind.RefuseRight
kind_of (frame.ReturnRight t) = kind.ReturnRight
kind_of (frame.RouteAsk t first most) = kind.RouteAsk
kind_of (frame.RouteInfo t run) = kind.RouteInfo
kind_of (frame.RouteWithdraw t s) = kind.RouteWithdraw
kind_of (frame.RouteReturn t run) = kind.RouteReturn
kind_of (frame.Announce number t track) = kind.Announce
kind_of (frame.Cancel number t) = kind.Cancel
kind_of (frame.TakingOver number t) = kind.TakingOver
kind_of (frame.Yield number t heard has_data is_ended place hand) = kind.Yield

abbrev pub kind_number : BodyKind → ℕ
kind_number kind.AskRight = 1
kind_number kind.GiveRight = 2
kind_number kind.RefuseRight = 3
kind_number kind.ReturnRight = 4
kind_number kind.RouteAsk = 5
kind_number kind.RouteInfo = 6
kind_number kind.RouteWithdraw = 7
kind_number kind.RouteReturn = 8
kind_number kind.Announce = 9
kind_number kind.Cancel = 10
kind_number kind.TakingOver = 11
kind_number kind.Yield = 12

-- a reply is the expected one
abbrev pub is_reply : Word → spec.Word → Bool
is_reply (word.Done s) (spec.Done t) = s == t
is_reply (word.Asked s) (spec.Asked t) = s == t
is_reply (word.NotHome s) (spec.NotHome t) = s == t
is_reply (word.Told s) (spec.Told t) = s == t
is_reply wanted reply = false

-- the use of a section is the expected one
abbrev pub is_mark : Mark → line_centre.Mark → Bool
is_mark mark.Shut line_centre.Shut = true
is_mark mark.Open line_centre.Open = true
is_mark (mark.Kept t) (line_centre.Kept u) = t == u
is_mark (mark.Given t) (line_centre.Given u) = t == u
is_mark wanted found = false

-- the outcome of a step at a centre meets it
abbrev pub OutcomeMeets : Line → ℕ → Outcome → Expectation → Type 0
OutcomeMeets line at o expect.Nothing = SaysNothing o
OutcomeMeets line at o (expect.Silence reason) = IsTrue (has (λ why. is_or_any reason (reason_number why)) o.silence)
OutcomeMeets line at o (expect.Message centre t wanted) =
    IsTrue ((centre == at) && list_any (λ s. (s.nid_engine == t) && fits line wanted s.message) o.sayings)
OutcomeMeets line at o (expect.Frame from to wanted) =
    IsTrue ((from == at) && list_any (λ f. kind_number (kind_of f.body) == kind_number wanted) (o.frames to))
OutcomeMeets line at o (expect.Reply centre wanted) =
    IsTrue ((centre == at) && list_any (λ reply. is_reply wanted reply) o.words)
OutcomeMeets line at o other = ⊥

-- the answer meets it
abbrev pub AnswerMeets : Line → ℕ → Answer → Expectation → Type 0
AnswerMeets line at (Answered o) wanted = OutcomeMeets line at o wanted
AnswerMeets line at other expect.Refused = Unit {0}
AnswerMeets line at other wanted = ⊥

-- the answer to an event at a centre, or the line after it, meets the expectation
abbrev pub Meets : Line → World → ℕ → Answer → Expectation → Type 0
Meets line w at answer (expect.Section s wanted) =
    IsTrue (nat_lt s (length line.sections) && is_mark wanted ((read_off line w).mark s))
Meets line w at answer (expect.Train t supervisor) = seat_at line (read_off line w) t ≡ supervisor
Meets line w at answer wanted = AnswerMeets line at answer wanted

-- The promise to the world outside, of a print. Its lines are those of events and answers. By the messages and replies
-- of these answers, the promise holds after each of them. No centre, no step and no frame occurs here.
use Rattle.std.specs.Io.KnownBytes.{Appends}
use Rattle.std.specs.Prelude.{[], ◌++◌, ◌∷◌, ◌≡◌, codes, Err, List, map, Ok, Option, Result, ℕ}
use Rattle.law_outside.specs.Outside.{IsSafeOutside, nothing_seen, sees_all, spoken_of}
use Rattle.rbc_spec.specs.Line.{Line}
use Rattle.rbc_spec.specs.LineCentre.{LineState}
use Rattle.rbc_spec.specs.World.{Answer, centre_of, Event}
use Rattle.text_script.specs.declared.play.PlayFault.{PlayFault}
use Rattle.text_script.specs.declared.play.PlayFault.TheVariants.{Refused, Untold}
use Rattle.text_script.specs.Print.Answers.{IsAnswerPrint}
use Rattle.text_script.specs.Print.Rows.{event_row}
use Rattle.text_script.specs.Print.Shown.{state_text}
use Rattle.text_script.specs.rbc_world.declared.event.WorldEvent.{WorldEvent}
use Rattle.text_script.specs.rbc_world.Views.{event_of}

-- a part of a print: the line as it is shown, or an event with its answer
pub data Part : Type 0 where
  Shown : (state : LineState) → (trains : List ℕ) → Part
  Stepped : (event : WorldEvent) → (answer : Answer) → Part

-- the lines of a part
abbrev pub IsPartPrint : Line → Part → List ℕ → Type 0
IsPartPrint line (Shown v trains) text = text ≡ codes "> show\n" ++ state_text line v trains
IsPartPrint line (Stepped event answer) text =
    (rows : List ℕ) × IsAnswerPrint line (centre_of (event_of event)) answer rows
    × (text ≡ event_row line event ++ rows)

-- the lines of parts, in order
abbrev pub ArePartPrints : Line → List Part → List ℕ → Type 0
ArePartPrints line [] text = text ≡ []
ArePartPrints line (part ∷ parts) text =
    (rows others : List ℕ) × IsPartPrint line part rows × ArePartPrints line parts others × (text ≡ rows ++ others)

abbrev pub events_in : List Part → List Event
events_in [] = []
events_in (Shown v trains ∷ parts) = events_in parts
events_in (Stepped event answer ∷ parts) = event_of event ∷ events_in parts

abbrev pub answers_in : List Part → List Answer
answers_in [] = []
answers_in (Shown v trains ∷ parts) = answers_in parts
answers_in (Stepped event answer ∷ parts) = answer ∷ answers_in parts

-- the promise holds after each of these parts
abbrev pub AreSafeParts : Line → List Part → Type 0
AreSafeParts line parts = (first rest : List Part) → parts ≡ first ++ rest
    → IsSafeOutside line (sees_all line (events_in first) (map spoken_of (answers_in first)) nothing_seen)

-- A safe print: the lines of safe parts, and then the line
abbrev pub IsSafePrint : Line → List ℕ → Type 0
IsSafePrint line text =
    (parts : List Part) × (rows : List ℕ) × (state : LineState) × (trains : List ℕ) × ArePartPrints line parts rows
    × AreSafeParts line parts × (text ≡ rows ++ state_text line state trains)

-- A safe print that stops at an event: the lines of safe parts, and then that event without an answer
abbrev pub IsSafePrintUntil : Line → List ℕ → Type 0
IsSafePrintUntil line text =
    (parts : List Part) × (rows : List ℕ) × (event : WorldEvent) × ArePartPrints line parts rows
    × AreSafeParts line parts × (text ≡ rows ++ event_row line event)

-- A safe print is appended to the bytes of the writer. Nothing is claimed if it refused a write, or memory ran out for
-- the print.
abbrev pub LeavesSafePrint : {F : Type 0} → Line → Result (Unit {0}) (PlayFault F)
    → Option (List ℕ) → Option (List ℕ) → Type 0
LeavesSafePrint line (Ok done) before after = (text : List ℕ) × IsSafePrint line text × Appends before after text
LeavesSafePrint line (Err (Refused fault)) before after =
    (text : List ℕ) × IsSafePrintUntil line text × Appends before after text
LeavesSafePrint line (Err (Untold why)) before after = Unit {0}

-- The printed lines after an event, and the message, reply or silence of each.
use Rattle.std.specs.Prelude.{[], ◌++◌, ◌∷◌, ◌≡◌, ◌≢◌, codes, false, List, None, Option, option_map, Some, true, ℕ}
use Rattle.law_outside.specs.Outside.{Spoken}
use Rattle.rbc_spec.specs.Frame.{Frame}
use Rattle.rbc_spec.specs.Line.{Line}
use Rattle.rbc_spec.specs.Outcome.{Reason, Saying, Word}
use Rattle.rbc_spec.specs.World.{centre_of}
use Rattle.rbc_watch.specs.declared.event.Exchange.{Exchange}
use Rattle.rbc_watch.specs.Events.{event_of, saying_of, spoken_of, word_of}
use Rattle.text_script.specs.Print.Answers.{IsSayingRow}
use Rattle.text_script.specs.Print.Rows.{fault_row, frame_row, name_at, reason_number, remark_row, silence_row}
use Rattle.text_script.specs.Print.Rows.{word_row}
use Rattle.text_prints.specs.declared.part.Part.{Part}
use Rattle.text_prints.specs.declared.part.Part.TheVariants as part

-- the line of a silence for the reason of this number, if there is one
abbrev pub SpellsSilence : List ℕ → ℕ → List ℕ → Type 0
SpellsSilence centre n text = (why : Reason) → reason_number why ≡ n → text ≡ silence_row centre why

-- the line of a silence for the reason of this number
abbrev pub IsSilenceRow : List ℕ → ℕ → List ℕ → Type 0
IsSilenceRow centre n text = (why : Reason) × (reason_number why ≡ n) × (text ≡ silence_row centre why)

-- the text is the line of no message to a train, no reply and no silence, at the centre of this name
pub record SaysNothing (centre text : List ℕ) : Type 0 where
  pub no_message : (s : Saying) → IsSayingRow centre s text → ⊥
  pub no_reply : (w : Word) → text ≢ word_row centre w
  pub no_silence : (why : Reason) → text ≢ silence_row centre why

-- the event was accepted: the text is the line of a frame, or a remark
pub record IsAccepted (centre text : List ℕ) : Type 0 where
  pub nothing : SaysNothing centre text
  pub no_fault : (n : ℕ) → text ≢ fault_row centre n
  pub sent : text ≢ codes "not sent\n"

-- the event had no effect, or the text is about the state of the centres
pub record HasNoEffect (centre text : List ℕ) : Type 0 where
  pub nothing : SaysNothing centre text
  pub no_frame : (to : List ℕ) (f : Frame) → text ≢ frame_row centre to f
  pub not_ok : text ≢ remark_row centre (codes "ok")
  pub not_old : text ≢ remark_row centre (codes "old")
  pub not_early : text ≢ remark_row centre (codes "early")

-- the text is the line of this part, with its line feed
abbrev pub IsRowOf : List ℕ → Part → List ℕ → Type 0
IsRowOf centre (part.Said s) text = IsSayingRow centre (saying_of s) text
IsRowOf centre (part.Replied w) text = text ≡ word_row centre (word_of w)
IsRowOf centre (part.Silent n) text = IsSilenceRow centre n text
IsRowOf centre part.Accepted text = IsAccepted centre text
IsRowOf centre part.Nothing text = HasNoEffect centre text

-- the messages and replies after an event; if there are none yet, it was accepted
abbrev pub or_heard : Option Spoken → Spoken
or_heard None = record { is_heard = true; sayings = []; words = [] }
or_heard (Some o) = o

abbrev pub with_saying : Saying → Spoken → Spoken
with_saying s o = record o { sayings = o.sayings ++ s ∷ [] }

abbrev pub with_word : Word → Spoken → Spoken
with_word w o = record o { words = o.words ++ w ∷ [] }

-- the same, with one more part
abbrev pub with_part : Part → Option Spoken → Option Spoken
with_part (part.Said s) o = Some (with_saying (saying_of s) (or_heard o))
with_part (part.Replied w) o = Some (with_word (word_of w) (or_heard o))
with_part (part.Silent n) o = Some (record (or_heard o) { is_heard = false })
with_part part.Accepted o = Some (or_heard o)
with_part part.Nothing o = o

-- the exchange after is the one before, with the part that has this line
abbrev pub AddsRow : Line → Exchange → List ℕ → Exchange → Type 0
AddsRow line before text after =
    (p : Part) × IsRowOf (name_at line (centre_of (event_of before.event))) p text
    × (event_of after.event ≡ event_of before.event)
    × (option_map spoken_of after.spoken ≡ with_part p (option_map spoken_of before.spoken))

-- The print of an answer: its lines in order.
use Rattle.std.specs.List.{flat_map}
use Rattle.std.specs.Option.{option_map_or}
use Rattle.std.specs.Prelude.{[], ◌++◌, ◌∷◌, ◌≡◌, codes, length, List, None, Option, Some, suc, zero, ℕ}
use Rattle.rbc_msgs.specs.TrackSpelling.{SpellsTrack}
use Rattle.rbc_spec.specs.Frame.{Frame}
use Rattle.rbc_spec.specs.Line.{Line}
use Rattle.rbc_spec.specs.Outcome.{Early, Old, Outcome, Reason, Saying, Taken}
use Rattle.rbc_spec.specs.World.{Answer, Answered, Fault, NoCentre, NotSent}
use Rattle.text_script.specs.Print.Rows.{fault_row, frame_row, name_at, remark_row, saying_row, silence_row, word_row}

-- the line of a message to a train shows the bytes that spell it
pub record IsSayingRow (centre : List ℕ) (s : Saying) (text : List ℕ) : Type 0 where
  pub bytes : List ℕ
  pub spelled : SpellsTrack bytes s.message
  pub row : text ≡ saying_row centre s.nid_engine bytes

-- the lines of messages to trains, in order
abbrev pub AreSayingRows : List ℕ → List Saying → List ℕ → Type 0
AreSayingRows centre [] text = text ≡ []
AreSayingRows centre (s ∷ sayings) text =
    (row others : List ℕ) × (text ≡ row ++ others) × IsSayingRow centre s row × AreSayingRows centre sayings others

-- the lines of the frames to the centres below n, by the centres
abbrev pub frame_rows : Line → List ℕ → (ℕ → List Frame) → ℕ → List ℕ
frame_rows line centre frames zero = []
frame_rows line centre frames (suc n) =
    frame_rows line centre frames n ++ flat_map (frame_row centre (name_at line n)) (frames n)

-- the step sends nothing: to no train, to no other centre, and not to the interlocking
pub record SaysNothing (o : Outcome) : Type 0 where
  pub sayings : o.sayings ≡ []
  pub frames : (d : ℕ) → o.frames d ≡ []
  pub words : o.words ≡ []

-- the last remark: `ok` if the step sends nothing
pub record IsLeft (o : Outcome) (remark : Option (List ℕ)) : Type 0 where
  pub nothing : SaysNothing o → remark ≡ Some (codes "ok")
  pub something : (SaysNothing o → ⊥) → remark ≡ None

-- the remark that a frame was old or came early, or the last remark
abbrev pub IsLinkRemark : Outcome → Option Taken → Option (List ℕ) → Type 0
IsLinkRemark o (Some Old) remark = remark ≡ Some (codes "old")
IsLinkRemark o (Some Early) remark = remark ≡ Some (codes "early")
IsLinkRemark o other remark = IsLeft o remark

-- why the step was silent, or that remark
abbrev pub IsRemark : List ℕ → Outcome → Option Reason → List ℕ → Type 0
IsRemark centre o (Some why) text = text ≡ silence_row centre why
IsRemark centre o None text =
    (remark : Option (List ℕ)) × IsLinkRemark o o.link remark × (text ≡ option_map_or (remark_row centre) remark [])

-- The step of the centre of this name: its messages to trains, its frames by their receivers, its replies to the
-- interlocking, and a remark
pub record IsOutcomePrint (line : Line) (centre : List ℕ) (o : Outcome) (text : List ℕ) : Type 0 where
  pub sayings : List ℕ
  pub remark : List ℕ
  pub to_trains : AreSayingRows centre o.sayings sayings
  pub last : IsRemark centre o o.silence remark
  pub whole : text ≡ sayings
      ++ (frame_rows line centre o.frames (length line.centres) ++ (flat_map (word_row centre) o.words ++ remark))

-- the print of the answer to an event at centre c
abbrev pub IsAnswerPrint : Line → ℕ → Answer → List ℕ → Type 0
IsAnswerPrint line c (Answered o) text = IsOutcomePrint line (name_at line c) o text
IsAnswerPrint line c (Fault number) text = text ≡ fault_row (name_at line c) number
IsAnswerPrint line c NotSent text = text ≡ codes "not sent\n"
IsAnswerPrint line c NoCentre text = text ≡ []

-- The bytes that a writer of replies leaves: consecutive messages of a centre.
use Rattle.std.specs.Prelude.{◌≡◌, ℕ, List, [], ◌∷◌, ◌++◌, take}
use Rattle.rbc_spec.specs.Message.{TrackMessage}
use Rattle.rbc_msgs.specs.TrackSpelling.{SpellsTrack}

-- the bytes are the spellings of these messages, in order
abbrev pub SpellRow : List ℕ → List TrackMessage → Type 0
SpellRow bytes [] = bytes ≡ []
SpellRow bytes (m ∷ others) =
    (first : List ℕ) × (later : List ℕ) × (bytes ≡ first ++ later) × SpellsTrack first m × SpellRow later others

-- the bytes are whole messages
abbrev pub IsRow : List ℕ → Type 0
IsRow bytes = (messages : List TrackMessage) × SpellRow bytes messages

-- the same, and after them a beginning of one message
pub record IsBegunRow (bytes : List ℕ) : Type 0 where
  pub whole : List ℕ
  pub row : IsRow whole
  pub last : List ℕ
  pub message : TrackMessage
  pub spelled : SpellsTrack last message
  pub count : ℕ
  pub begun : bytes ≡ whole ++ take count last
